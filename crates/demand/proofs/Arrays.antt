-- The array of a dealing. With a reconstruction row r for position b over the group, g_j[b] = Σ_i r_i (g_j · m_i) = Σ_i r_i (m_j · h^i) = m_j · (Σ_i r_i h^i),
-- so the vector Σ_i r_i h^i gives every member's share of column b; its first ℓ entries are fixed by the shares, because the group determines them. The own
-- pairs are used, no inverse is.
-- behind: that vector
-- array_of: the array
use mathlib.Core.Path.{◌≡◌, refl, ap, sym, ◌∙◌, ◌≡⟨◌⟩◌, ◌∎}
use mathlib.Core.Bool.{Bool, true, not, false≢true}
use mathlib.Core.List.{List, [], ◌∷◌}
use Prim.Native.Nat.{ℕ, ◌%◌, ◌≤◌, ◌<◌}
use native.Mathlib.Nat.{mod-lt, mod-eq_of_lt, zero-mod}
use native.Mathlib.Omega.{arith}
use borrow.Author.Tests.{eqb-true, eq-eqb, not-true, not-false}
use lib.Dec.{eqb}
use lib.ListN.{length, take, replicate, length-replicate, get_or-replicate}
use lib.Seq.{ext_get_or, get_or-take, length-take-le}
use Rattle.base.specs.Rules.{Answer, refusal, given}
use Rattle.base.specs.Sum.{sum}
use Rattle.base.specs.Search.{every, first, First, found, missing, Vec}
use Rattle.base.specs.Fill.{tab}
use Rattle.base.proofs.Rules.{not-refused}
use Rattle.base.proofs.Search.{every-at, every-all, first-is}
use Rattle.base.proofs.Fill.{length-tab, get_d-tab, tab-is, tab-vec}
use Rattle.field.specs.Dot.{at, dot}
use Rattle.field.proofs.Dot.{dot-comm, dot-mod-right, dot-assoc, row_reads}
use Rattle.scheme.specs.Setup.{Setup, dim, row}
use Rattle.scheme.specs.Answers.{kept}
use Rattle.scheme.specs.Dealing.{pair_value, expected, outcome}
use Rattle.scheme.specs.Sets.{holds, members, row_at, has_row, determines}
use Rattle.scheme.specs.Calls.{judge_rules, outcome_rules, pair_value_rules}
use Rattle.scheme.proofs.Calls.{limits-prime, limits-pos, SetOk, determines-ok, outcome-ok}
use Rattle.scheme.proofs.Verdicts.{accept-means, kept-means}
use Rattle.scheme.proofs.Members.{member-at}
use Rattle.scheme.proofs.Sets.{the_row, the_row-is, same-secrets}
use Rattle.demand.specs.Demand.{Dealing, Member, Keeps, Done, Terms, one_column, Array, column, IsArray, AgreesAt, Agrees, ExactlyOne, secrets_over, Found}
use Rattle.demand.proofs.Given.{dot-reduced, combine-tab, combine-one}

-- vectors that agree below l begin alike
takes : (l : ℕ) (v w : List ℕ) → l ≤ length v → l ≤ length w → ((k : ℕ) → k < l → at v k ≡ at w k) → take l v ≡ take l w
takes l v w hv hw same =
    ext_get_or 0 (take l v) (take l w) (length-take-le l v hv ∙ sym (length-take-le l w hw))
    (λ k h. let m : k < l = omega (arith, length-take-le l v hv) in get_or-take l v k 0 m ∙ same k m ∙ sym (get_or-take l w k 0 m))

pub one_value : (x y : ℕ) → given (x ∷ []) ≡ given (y ∷ []) → x ≡ y
one_value x y e = ap (λ (a : Answer). at a.values 0) e

-- EXACTLY ONE ARRAY
module _ (S : Setup) (group : ℕ) (det : determines S (holds group) ≡ true) (D : Dealing) where
  -- two arrays that agree at column b have the same column b
  same-column : (A B : Array) (b : ℕ) → AgreesAt S group D A b → AgreesAt S group D B b → column A b ≡ column B b
  same-column A B b x y =
      sym x.begins
      ∙ takes S.l x.vector y.vector (omega (arith, x.ok.size)) (omega (arith, y.ok.size))
      (λ k h.
      sym (mod-eq_of_lt (x.ok.small k (omega arith)))
      ∙ same-secrets S (holds group) det (at x.vector) (at y.vector) (λ i l t. x.gives i (l, t) ∙ sym (y.gives i (l, t))) k h
      ∙ mod-eq_of_lt (y.ok.small k (omega arith)))
      ∙ y.begins

  pub only : (A B : Array) → IsArray S A → IsArray S B → Agrees S group D A → Agrees S group D B → A ≡ B
  only A B is_a is_b agA agB =
      ext_get_or [] A B (is_a.count ∙ sym is_b.count) (λ b h. let l : b < S.l = omega (arith, is_a.count) in same-column A B b (agA b l) (agB b l))

  pub exactly-one : (A : Array) → IsArray S A → Agrees S group D A → ExactlyOne S group D A
  exactly-one A is_a agA = record { array = is_a; agrees = agA; others = others' }
    where
      others' : (B : Array) → IsArray S B → (B ≡ A → ⊥) → (b : ℕ) × (b < S.l) × (AgreesAt S group D B b → ⊥)
      others' B is_b ne = go (first wrong S.l) (first-is wrong S.l)
        where
          wrong : ℕ → Bool
          wrong b = not (every S.l (λ k. eqb (at (column B b) k) (at (column A b) k)))

          go : (r : ℕ) → First wrong S.l r → (b : ℕ) × (b < S.l) × (AgreesAt S group D B b → ⊥)
          go r (missing e h) =
              absurd (ne (ext_get_or [] B A (is_b.count ∙ sym is_a.count)
              (λ b m.
              let l : b < S.l = omega (arith, is_b.count) in
              ext_get_or 0 (column B b) (column A b) ((is_b.each b l).size ∙ sym (is_a.each b l).size)
              (λ k o. eqb-true _ _ (every-at S.l _ (not-false _ (h b l)) k (omega (arith, (is_b.each b l).size)))))))
          go r (found l e h) =
              (r, l, λ ag. false≢true (sym (not-true _ e) ∙ every-all S.l _ (λ k m. eq-eqb _ _ (ap (λ c. at c k) (same-column B A r ag (agA r l))))))

-- WHAT A HOLDER THAT KEPT ITS SHARES HAS
module _ (S : Setup) (D : Dealing) (i : ℕ) (keeps : Keeps S D i) where
  judged : (j : ℕ) → j < S.n → at (D.values i) j ≡ expected S (D.h i) j
  judged = accept-means S (D.h i) (D.values i) (not-refused (refusal (judge_rules S (D.h i) (D.values i))) _ _ keeps.judged).1

  settled : (refusal (outcome_rules S (D.g i) (D.verdicts i) keeps.lent) ≡ 0) × (outcome S (D.verdicts i) ≡ kept)
  settled = not-refused (refusal (outcome_rules S (D.g i) (D.verdicts i) keeps.lent)) _ _ keeps.settled

  pub part-g : Vec S.p (dim S) (D.g i)
  part-g = (outcome-ok S (D.g i) (D.verdicts i) keeps.lent settled.0).part

  shares-are : D.shares i ≡ take S.l (D.g i)
  shares-are = sym keeps.share ∙ rw (settled.0, kept-means S (D.verdicts i) settled.1) refl

  pub share-at : (b : ℕ) → b < S.l → at (D.shares i) b ≡ at (D.g i) b
  share-at b l = ap (λ v. at v b) shares-are ∙ get_or-take S.l (D.g i) b 0 l

  pub share-small : (b : ℕ) → b < S.l → at (D.shares i) b < S.p
  share-small b l = rw (share-at b l) (part-g.small b (omega arith))

-- WHAT THE GROUP'S MEMBERS HAVE
module _ (S : Setup) (group : ℕ) {I : Type 0} (D : I → Dealing) (done : Done S group D) where
  pub ok : SetOk S group
  ok = (determines-ok S group done.determined).0

  pub det : determines S (holds group) ≡ true
  det = (determines-ok S group done.determined).1

  pub pos : 0 < S.p
  pos = limits-pos S ok.setup.limits

  pub big : 1 < S.p
  big = (limits-prime S ok.setup.limits).big

  sent : (t : I) (i j : ℕ) → Member S group i → Member S group j → at ((D t).values i) j ≡ pair_value S ((D t).g j) i
  sent t i j mi mj = sym (one_value _ _ (not-refused (refusal (pair_value_rules S ((D t).g j) i)) _ _ (done.delivered t i j mi mj)).1)

  -- THE ARRAY OF A DEALING: behind column b stands the vector that b's row over the group makes of the h's
  pub ms : List ℕ
  ms = members S.n (holds group)

  pub behind : I → ℕ → ℕ → ℕ
  behind t b c = dot (length ms) (at (the_row S (holds group) b)) (λ a. at ((D t).h (at ms a)) c)

  pub behind-at : (t : I) (b c : ℕ)
      → behind t b c
      ≡ dot (length (members S.n (holds group))) (at (the_row S (holds group) b)) (λ a. at ((D t).h (at (members S.n (holds group)) a)) c)
  unfolding behind ms
  behind-at t b c = refl

  -- it gives every member's share
  pub behind-gives : (t : I) (b : ℕ) → b < S.l → (j : ℕ) → Member S group j → dot (dim S) (row S j) (behind t b) % S.p ≡ at ((D t).shares j) b
  unfolding behind ms pair_value expected determines
  behind-gives t b l j mj =
      let r = at (the_row S (holds group) b) in
      let H : ℕ → ℕ → ℕ = λ a. at ((D t).h (at ms a)) in
      let g = at ((D t).g j) in
      dot (dim S) (row S j) (behind t b) % S.p
      ≡⟨ ap (λ z. z % S.p) (dot-comm (dim S) (row S j) (behind t b) ∙ sym (dot-assoc (length ms) (dim S) r (row S j) H)) ⟩
      dot (length ms) r (λ a. dot (dim S) (H a) (row S j)) % S.p
      ≡⟨ dot-mod-right S.p (length ms) r _ _ (λ a o.
      let mi : Member S group (at ms a) = member-at S.n (holds group) a o in
      ap (λ z. z % S.p) (dot-comm (dim S) (H a) (row S j))
      ∙ sym (judged S (D t) (at ms a) (done.keepers t (at ms a) mi) j mj.0) ∙ sent t (at ms a) j mi mj
      ∙ ap (λ z. z % S.p) (dot-comm (dim S) g (row S (at ms a)))) ⟩
      dot (length ms) r (λ a. dot (dim S) (row_at S ms a) g) % S.p
      ≡⟨ row_reads S.p (length ms) (dim S) (row_at S ms) b r (omega arith) (the_row-is S (holds group) b (every-at S.l (has_row S (holds group)) det b l)) g ⟩
      g b % S.p
      ≡⟨ mod-eq_of_lt ((part-g S (D t) j (done.keepers t j mj)).small b (omega arith)) ⟩
      g b
      ≡⟨ sym (share-at S (D t) j (done.keepers t j mj) b l) ⟩
      at ((D t).shares j) b ∎

  vector_of : I → ℕ → List ℕ
  vector_of t b = tab (dim S) (λ c. behind t b c % S.p)

  vector_ok : (t : I) (b : ℕ) → Vec S.p (dim S) (vector_of t b)
  unfolding vector_of
  vector_ok t b = tab-vec S.p (dim S) _ (λ k l. mod-lt _ pos)

  pub array_of : I → Array
  array_of t = tab S.l (λ b. take S.l (vector_of t b))

  array-column : (t : I) (b : ℕ) → b < S.l → column (array_of t) b ≡ take S.l (vector_of t b)
  unfolding array_of
  array-column t b h = get_d-tab S.l (λ b. take S.l (vector_of t b)) [] b h

  pub array-is : (t : I) → IsArray S (array_of t)
  array-is t =
      record {
        count = unfold array_of in length-tab S.l _;
        each = λ b h. rw (array-column t b h)
            (record {
              size = length-take-le S.l (vector_of t b) (omega (arith, (vector_ok t b).size));
              small = λ k l. rw (get_or-take S.l (vector_of t b) k 0 l) ((vector_ok t b).small k (omega arith));
            });
      }

  pub array-agrees : (t : I) → Agrees S group (D t) (array_of t)
  array-agrees t b h =
      record {
        vector = vector_of t b;
        ok = vector_ok t b;
        begins = sym (array-column t b h);
        gives = λ i m. unfold vector_of in dot-reduced S.p (dim S) (row S i) (behind t b) ∙ behind-gives t b h i m;
      }

  -- position k of column b, before and after reduction
  pub array_at : (t : I) (b k : ℕ) → b < S.l → k < S.l → at (column (array_of t) b) k ≡ behind t b k % S.p
  unfolding vector_of
  array_at t b k h l =
      ap (λ c. at c k) (array-column t b h) ∙ get_or-take S.l (vector_of t b) k 0 l ∙ get_d-tab (dim S) _ 0 k (omega arith)

  -- So position k of column b of the array found, whoever found it, is what b's row over the group makes of the members' h
  pub array-by-row : {J : Type 0} (Z : J → Dealing) (F : Found S group D Z) (t : I) (b k : ℕ) → b < S.l → k < S.l
      → at (column (F.array t) b) k
      ≡ dot (length (members S.n (holds group))) (at (the_row S (holds group) b)) (λ a. at ((D t).h (at (members S.n (holds group)) a)) k) % S.p
  array-by-row Z F t b k h l =
      ap (λ A. at (column A b) k) (only S group det (D t) _ _ (F.one t).array (array-is t) (F.one t).agrees (array-agrees t))
      ∙ array_at t b k h l
      ∙ ap (λ z. z % S.p) (behind-at t b k)

  -- LISTS of one column and of none
  pub one-column' : (t : I) (b : ℕ) → b < S.l
      → secrets_over S array_of (one_column t b) ≡ column (array_of t) b
  one-column' t b h =
      sym (tab-is S.l _ 0 (column (array_of t) b) ((array-is t).each b h).size
      (λ k l. sym (combine-one S.p (at (column (array_of t) b) k) (((array-is t).each b h).small k l))))

  pub no-columns' : (ts : Terms I) → ts.count ≡ 0 → secrets_over S array_of ts ≡ replicate S.l 0
  no-columns' ts e =
      sym (tab-is S.l _ 0 (replicate S.l 0) (length-replicate {A = ℕ} S.l 0)
      (λ k l. get_or-replicate S.l k 0 0 l ∙ sym (combine-tab S.p ts.count ts.constant _ ∙ rw e (unfold dot sum in zero-mod S.p))))
