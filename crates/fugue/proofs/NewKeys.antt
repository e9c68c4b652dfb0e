-- The keys of a new span (L8.3): its first unit hangs as its origins say, each later one right below the one before it. Keys of old units stay.
use Prim.Native.Nat.{ℕ, zero, suc, ◌+◌, ◌<◌, ◌≤◌}
use mathlib.Core.Path.{◌≡◌, refl, sym, ap, subst, ◌∙◌}
use mathlib.Core.Logic.{inl, inr}
use mathlib.Core.Bool.{Bool, cond}
use mathlib.Core.List.{List, [], ◌∷◌, ◌++◌}
use native.Mathlib.Omega.{arith}
use native.Mathlib.Decide.{dec_lt}
use lib.ListN.{length, length-append}
use Rattle.std.specs.Prelude.{None, Some}
use Rattle.span.specs.declared.ids.Id.{Id}
use Rattle.span.specs.Maybe.{OptId}
use Rattle.span.specs.declared.span.FugueSpan.{FugueSpan}
use Rattle.span.specs.Ids.{inc_id, same_opt}
use Rattle.span.proofs.IdsLaws.{inc_zero}
use Rattle.units.specs.Place.{has_ol, parent_right}
use Rattle.fugue.specs.Tree.{ref, ol}
use Rattle.fugue.proofs.Order.{Older, older_no, inc_older, older_inc}
use Rattle.fugue.proofs.Keys.{Key, sl, sr}
use Rattle.fugue.proofs.Hang.{Hung, hung_r, hung_l, Below, below, none≢at}
use Rattle.fugue.proofs.ScanPlace.{Mem}
use Rattle.fugue.proofs.Tests.{Test, pass, fail, same_opt_test, has_ol_test}
use Rattle.fugue.proofs.Insert.{In, Good}
use Rattle.fugue.proofs.Alike.{good_key}

-- an earlier id of a span is older than a later one
inc_less : (i : Id) (j k : ℕ) → j < k → Older (inc_id i j) (inc_id i k)
inc_less i j zero h = absurd (let z : ⊥ = omega arith in z)
inc_less i j (suc k) h = go (dec_lt j k) (inc_less i j k)
  where
    go : Dec (j < k) → (j < k → Older (inc_id i j) (inc_id i k)) → Older (inc_id i j) (inc_id i (suc k))
    go (yes y) ih = older_inc (inc_id i j) i k (ih y)
    go (no n) ih = subst (λ (z : ℕ). Older (inc_id i z) (inc_id i (suc k))) (let e : k ≡ j = omega arith in e) (inc_older i k)

pub inc_apart : (i : Id) (j k : ℕ) → j < k → Some (inc_id i j) ≡ Some (inc_id i k) → ⊥
inc_apart i j k h e = older_no (inc_id i j) (inc_id i k) (inc_less i j k h) (let d : inc_id i j ≡ inc_id i k = cc in d)

pub older_far : (a i : Id) (k : ℕ) → Older a i → Older a (inc_id i k)
older_far a i zero h = subst (Older a) (sym (inc_zero i)) h
older_far a i (suc k) h = older_inc a i k (older_far a i k h)

-- the key of unit k of a span from id i, whose first unit has the key f
unfoldable pub span_key : Id → Key → ℕ → Key
span_key i f zero = f
span_key i f (suc k) = span_key i f k ++ sr (inc_id i (suc k)) ∷ []

-- the keys with those of the n units of a span
unfoldable pub new_key : (OptId → Key) → Id → Key → ℕ → OptId → Key
new_key key i f zero r = key r
new_key key i f (suc n) r = cond (same_opt r (Some (inc_id i n))) (span_key i f n) (new_key key i f n r)

-- what the first unit's key must be
unfoldable pub first_key : (OptId → Key) → Id → OptId → OptId → Key
first_key key i x None = key x ++ sr i ∷ []
first_key key i x (Some r) = key (Some r) ++ sl i ∷ []

pub new_key_new : (key : OptId → Key) (i : Id) (f : Key) (n k : ℕ) → k < n → new_key key i f n (Some (inc_id i k)) ≡ span_key i f k
unfolding new_key
new_key_new key i f zero k h = absurd (let z : ⊥ = omega arith in z)
new_key_new key i f (suc n) k h = go (same_opt_test (Some (inc_id i k)) (Some (inc_id i n))) (dec_lt k n) (new_key_new key i f n k)
  where
    P : Bool → Key
    P b = cond b (span_key i f n) (new_key key i f n (Some (inc_id i k)))

    go : Test (same_opt (Some (inc_id i k)) (Some (inc_id i n))) (Some (inc_id i k) ≡ Some (inc_id i n)) → Dec (k < n) → (k < n → new_key key i f n (Some (inc_id i k)) ≡ span_key i f k)
        → P (same_opt (Some (inc_id i k)) (Some (inc_id i n))) ≡ span_key i f k
    go (pass e d) (yes y) ih = absurd (inc_apart i k n y d)
    go (pass e d) (no y) ih = ap P e ∙ ap (span_key i f) (let z : n ≡ k = omega arith in z)
    go (fail e d) (yes y) ih = ap P e ∙ ih y
    go (fail e d) (no y) ih = absurd (d (ap (λ (j : ℕ). Some (inc_id i j)) (let z : k ≡ n = omega arith in z)))

new_key_old : (key : OptId → Key) (i : Id) (f : Key) (n : ℕ) (r : OptId) → ((k : ℕ) → r ≡ Some (inc_id i k) → ⊥) → new_key key i f n r ≡ key r
unfolding new_key
new_key_old key i f zero r h = refl
new_key_old key i f (suc n) r h = go (same_opt_test r (Some (inc_id i n))) (new_key_old key i f n r h)
  where
    go : Test (same_opt r (Some (inc_id i n))) (r ≡ Some (inc_id i n)) → new_key key i f n r ≡ key r → cond (same_opt r (Some (inc_id i n))) (span_key i f n) (new_key key i f n r) ≡ key r
    go (pass e d) ih = absurd (h n d)
    go (fail e d) ih = ap (λ (b : Bool). cond b (span_key i f n) (new_key key i f n r)) e ∙ ih

pub span_key-length : (i : Id) (f : Key) (k : ℕ) → length (span_key i f k) ≡ length f + k
unfolding span_key
span_key-length i f zero = omega arith
span_key-length i f (suc k) = length-append (span_key i f k) (sr (inc_id i (suc k)) ∷ []) ∙ (let e : length (span_key i f k) ≡ length f + k = span_key-length i f k in omega arith)

pub first_key-length : (key : OptId → Key) (i : Id) (x r : OptId) (b : ℕ) → length (key x) ≤ b → length (key r) ≤ b → length (first_key key i x r) ≤ suc b
unfolding first_key
first_key-length key i x None b h k = omega (arith, length-append (key x) (sr i ∷ []))
first_key-length key i x (Some r) b h k = omega (arith, length-append (key (Some r)) (sl i ∷ []))

-- A span of suc n units from id i with origins x, o; every unit of its peer is older.
module _ (key : OptId → Key) (l : List FugueSpan) (g : Good key l) (i : Id) (n : ℕ) (x o : OptId) (ix : In x l)
    (newest : (w : FugueSpan) → Mem w l → Older w.id i) where
  unfoldable pub key_of : OptId → Key
  key_of r = new_key key i (first_key key i x (parent_right l x o)) (suc n) r

  old : (f : Key) (r : OptId) → In r l → new_key key i f (suc n) r ≡ key r
  old f r (inl e) = new_key_old key i f (suc n) r (λ (k : ℕ) (d : r ≡ Some (inc_id i k)). none≢at (sym e ∙ d))
  old f r (inr t) = new_key_old key i f (suc n) r (λ (k : ℕ) (d : r ≡ Some (inc_id i k)). clash k (t.2 ∙ d))
    where
      clash : (k : ℕ) → ref t.0 ≡ Some (inc_id i k) → ⊥
      clash k d = older_no t.0.id (inc_id i k) (older_far t.0.id i k (newest t.0 t.1)) (let z : t.0.id ≡ inc_id i k = cc in z)

  first : (f : Key) → new_key key i f (suc n) (Some i) ≡ f
  first f = ap (λ (z : Id). new_key key i f (suc n) (Some z)) (sym (inc_zero i)) ∙ (new_key_new key i f (suc n) 0 (omega arith) ∙ (unfold span_key in refl))

  pub key_of_old : (r : OptId) → In r l → key_of r ≡ key r
  unfolding key_of
  key_of_old r h = old (first_key key i x (parent_right l x o)) r h

  pub key_of_new : (k : ℕ) → k < suc n → key_of (Some (inc_id i k)) ≡ span_key i (first_key key i x (parent_right l x o)) k
  unfolding key_of
  key_of_new k h = new_key_new key i (first_key key i x (parent_right l x o)) (suc n) k h

  pub good_new : Good key_of l
  good_new = good_key key key_of l key_of_old g

  -- the first unit hangs as its origins say
  pub hung_new : Hung key_of x i (parent_right l x o)
  unfolding key_of parent_right
  hung_new = go (has_ol_test key l o x g.sorted)
    where
      N : OptId → Type 0
      N r = Hung (new_key key i (first_key key i x r) (suc n)) x i r

      none_c : new_key key i (first_key key i x None) (suc n) (Some i) ≡ first_key key i x None → new_key key i (first_key key i x None) (suc n) x ≡ key x → N None
      none_c e1 e2 = hung_r (e1 ∙ (unfold first_key in ap (λ (z : Key). z ++ sr i ∷ []) (sym e2)))

      some_c : (w : FugueSpan) → Mem w l → ol w ≡ x → new_key key i (first_key key i x (ref w)) (suc n) (Some i) ≡ first_key key i x (ref w)
          → new_key key i (first_key key i x (ref w)) (suc n) x ≡ key x → new_key key i (first_key key i x (ref w)) (suc n) (ref w) ≡ key (ref w) → N (ref w)
      some_c w m d e1 e2 e3 =
          let b : Below key (ol w) w.id = below key (g.wf w m) in
          hung_l b.s b.ls b.right b.lefts (e3 ∙ (b.shape ∙ ap (λ (z : Key). z ++ b.s ∷ b.ls) (ap key d ∙ sym e2)))
          (e1 ∙ (unfold first_key in ap (λ (z : Key). z ++ sl i ∷ []) (sym e3)))

      go : Test (has_ol l o x) ((w : FugueSpan) × Mem w l × (ref w ≡ o) × (ol w ≡ x)) → N (cond (has_ol l o x) o None)
      go (pass e t) = subst N (t.2 ∙ ap (λ (b : Bool). cond b o None) (sym e))
          (some_c t.0 t.1 t.3 (first (first_key key i x (ref t.0))) (old (first_key key i x (ref t.0)) x ix)
          (old (first_key key i x (ref t.0)) (ref t.0) (inr (t.0, t.1, refl))))
      go (fail e m) = subst N (ap (λ (b : Bool). cond b o None) (sym e)) (none_c (first (first_key key i x None)) (old (first_key key i x None) x ix))

  -- and each later one below the one before
  pub hungs_new : (k : ℕ) → suc k < suc n → Hung key_of (Some (inc_id i k)) (inc_id i (suc k)) None
  unfolding span_key
  hungs_new k h = hung_r (key_of_new (suc k) h ∙ ap (λ (a : Key). a ++ sr (inc_id i (suc k)) ∷ []) (sym (key_of_new k (omega arith))))
