-- Words of 16 bits as bytes (document 01, "Records": "Each has a mark of two bytes, then 16-bit fields, low byte first").
-- bytes: the bytes of a list of words
-- word_at: word i of a list of bytes; a byte that is not there counts as 0
-- words_at: k words, from word i on
-- Bytes: every element is a byte
use Rattle.std.specs.Prelude.{List, [], ◌∷◌, ℕ, ◌+◌, ◌*◌, ◌/◌, ◌%◌, ◌<◌, get_or}
use Rattle.base.specs.Fill.{tab}

-- "low byte first"
unfoldable pub bytes : List ℕ → List ℕ
bytes [] = []
bytes (x ∷ xs) = x % 256 ∷ x / 256 ∷ bytes xs

abbrev pub word_at : List ℕ → ℕ → ℕ
word_at s i = get_or s (2 * i) 0 + 256 * get_or s (2 * i + 1) 0

unfoldable pub words_at : List ℕ → ℕ → ℕ → List ℕ
words_at s i k = tab k (λ j. word_at s (i + j))

abbrev pub Bytes : List ℕ → Type 0
Bytes s = (i : ℕ) → get_or s i 0 < 256
