-- What is printed of a holder's file (document 01, "The holder program on paper"; document 02, A7: "Kept shares of the second print last, as `mapped` with column and
-- value"; A8: a zero dealing's file "is as a dealing's").
-- text_of: the text of its contents
-- line_of: the same, or the line of a refusal; file_text: of the file
use Rattle.std.specs.Prelude.{List, ℕ}
use Rattle.scheme.specs.Dealing.{shares}
use Rattle.file_text.specs.Lines.{printed, refused_text}
use Rattle.file_reading.specs.Contents.{Contents, shares_of, judgement, fate}
use Rattle.file_reading.specs.File.{FileRead, refused_at, whole, read_file}

unfoldable pub text_of : Contents → List ℕ
text_of C = printed C.setup C.dealing C.holder (judgement C) (fate C) (shares C.setup C.g) (shares_of C.setup C.kind)

-- "A refused file prints only `refused N at B`"
abbrev pub line_of : FileRead → List ℕ
line_of (refused_at k byte) = refused_text k byte
line_of (whole C) = text_of C

abbrev pub file_text : List ℕ → List ℕ
file_text s = line_of (read_file s)
