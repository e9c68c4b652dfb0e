-- a text that is put together of parts is cut into them again, where a part has no byte that it is cut at; digits have none but their own
use mathlib.Core.Path.{◌≡◌, refl, ap, ◌∙◌}
use mathlib.Core.Bool.{Bool, true, false, cond, not, and-eq-true_iff, false≢true}
use mathlib.Core.List.{List, [], ◌∷◌, ◌++◌}
use Prim.Native.Nat.{ℕ, zero, suc, ◌+◌, ◌≤◌}
use native.Mathlib.Omega.{arith}
use native.Mathlib.Numerals.{add-one}
use borrow.Author.Tests.{eq-eqb, ne_eqb}
use lib.Dec.{eqb}
use lib.IntN.{ℤ, pos, negsuc}
use lib.ListN.{length, get_or, length-append}
use lib.Seq.{take-length, take-append_seam, drop-append-add}
use Rattle.text.specs.Bytes.{index_of}
use Rattle.text.specs.Numbers.{is_digit, all_digits, numeral, int_text}
use Rattle.text.specs.Parts.{before, after, rest, part, parts, same_text}
use Rattle.text.proofs.NumeralLaws.{numeral_digits}

-- v has no b
abbrev pub Lacks : ℕ → List ℕ → Type 0
Lacks b v = index_of b v ≡ length v

-- its first byte is another, and the rest has none
pub record Other (b x : ℕ) (v : List ℕ) : Type 0 where
  pub here : eqb x b ≡ false
  pub later : Lacks b v

pub lacks_cons : (b x : ℕ) (v : List ℕ) → Lacks b (x ∷ v) → Other b x v
lacks_cons b x v e = go (eqb x b) refl e
  where
    go : (q : Bool) → eqb x b ≡ q → cond (not q) (1 + index_of b v) 0 ≡ suc (length v) → Other b x v
    go true p h = absurd (omega arith)
    go false p h = record { here = p; later = omega arith }

-- ---- cut

index_append : (b : ℕ) (v w : List ℕ) → Lacks b v → index_of b (v ++ w) ≡ length v + index_of b w
index_append b [] w e = omega arith
index_append b (x ∷ v) w e = let o = lacks_cons b x v e in rw (o.here, index_append b v w o.later) (omega arith)

pub lacks_append : (b : ℕ) (v w : List ℕ) → Lacks b v → Lacks b w → Lacks b (v ++ w)
lacks_append b v w p q = index_append b v w p ∙ rw (q, length-append v w)

-- a last part
pub before_all : (b : ℕ) (v : List ℕ) → Lacks b v → before b v ≡ v
before_all b v e = rw e (take-length v)

-- a part that b ends
module _ (b : ℕ) (v w : List ℕ) (e : Lacks b v) where
  index : index_of b (v ++ (b ∷ w)) ≡ length v
  index = index_append b v (b ∷ w) e ∙ rw (eq-eqb b b refl) (omega arith)

  pub before_cut : before b (v ++ (b ∷ w)) ≡ v
  before_cut = rw index (take-append_seam v (b ∷ w))

  pub after_cut : after b (v ++ (b ∷ w)) ≡ w
  after_cut = rw (index, ← add-one (length v)) (drop-append-add v (b ∷ w) 1)

  pub rest_cut : (i : ℕ) → rest b (suc i) (v ++ (b ∷ w)) ≡ rest b i w
  unfolding rest
  rest_cut i = ap (rest b i) after_cut

pub parts_all : (b : ℕ) (v : List ℕ) → Lacks b v → parts b v ≡ 1
unfolding parts
parts_all b [] e = refl
parts_all b (x ∷ v) e = let o = lacks_cons b x v e in rw o.here (parts_all b v o.later)

pub parts_cut : (b : ℕ) (v w : List ℕ) → Lacks b v → parts b (v ++ (b ∷ w)) ≡ suc (parts b w)
unfolding parts
parts_cut b [] w e = rw (eq-eqb b b refl)
parts_cut b (x ∷ v) w e = let o = lacks_cons b x v e in rw o.here (parts_cut b v w o.later)

pub same_lacks : (b : ℕ) (v t : List ℕ) → Lacks b v → same_text v (b ∷ t) ≡ false
same_lacks b [] t e = refl
same_lacks b (x ∷ v) t e = rw (lacks_cons b x v e).here

-- ---- parts with a b between each two

abbrev pub joined : ℕ → List ℕ → List (List ℕ) → List ℕ
joined b w [] = w
joined b w (v ∷ vs) = w ++ (b ∷ joined b v vs)

abbrev pub AllLack : ℕ → List ℕ → List (List ℕ) → Type 0
AllLack b w [] = Lacks b w
AllLack b w (v ∷ vs) = Lacks b w × AllLack b v vs

pub part-joined : (b : ℕ) (w : List ℕ) (vs : List (List ℕ)) → AllLack b w vs → (i : ℕ) → i ≤ length vs → part b i (joined b w vs) ≡ get_or (w ∷ vs) i []
unfolding rest
part-joined b w [] l zero h = before_all b w l
part-joined b w (v ∷ vs) l zero h = before_cut b w (joined b v vs) l.0
part-joined b w [] l (suc i) h = absurd (omega arith)
part-joined b w (v ∷ vs) l (suc i) h = ap (before b) (rest_cut b w (joined b v vs) l.0 i) ∙ part-joined b v vs l.1 i (omega arith)

pub parts-joined : (b : ℕ) (w : List ℕ) (vs : List (List ℕ)) → AllLack b w vs → parts b (joined b w vs) ≡ suc (length vs)
parts-joined b w [] l = parts_all b w l
parts-joined b w (v ∷ vs) l = parts_cut b w (joined b v vs) l.0 ∙ ap suc (parts-joined b v vs l.1)

-- ---- digits

module _ (b : ℕ) (h : is_digit b ≡ false) where
  other : (x : ℕ) → is_digit x ≡ true → eqb x b ≡ false
  other x d = ne_eqb x b (λ e. false≢true cc)

  pub digits_lack : (v : List ℕ) → all_digits v ≡ true → Lacks b v
  unfolding all_digits
  digits_lack [] d = refl
  digits_lack (x ∷ v) d = let p = (and-eq-true_iff (is_digit x) (all_digits v)).0 d in rw (other x p.0, digits_lack v p.1) (omega arith)

  pub numeral_lacks : (n : ℕ) → Lacks b (numeral n)
  numeral_lacks n = digits_lack (numeral n) (numeral_digits n)

  pub int_lacks : (z : ℤ) → eqb 45 b ≡ false → Lacks b (int_text z)
  unfolding int_text
  int_lacks (pos n) m = numeral_lacks n
  int_lacks (negsuc n) m = rw (m, numeral_lacks (suc n)) (omega arith)
