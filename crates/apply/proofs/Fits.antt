-- What the entries use and give, one after the other.
use Prim.Native.Nat.{ℕ, ◌+◌, ◌-◌, ◌<◌, ◌≤◌}
use mathlib.Core.Path.{◌≡◌, refl, sym, ap, ap₂, ◌∙◌}
use mathlib.Core.Bool.{true, false}
use mathlib.Core.List.{List, [], ◌∷◌, ◌++◌}
use native.Mathlib.Omega.{arith}
use native.Mathlib.Nat.{zero-add}
use lib.Dec.{leb}
use lib.ListN.{length, drop, length-append, length-drop}
use lib.Seq.{length-take-le}
use borrow.Author.Tests.{le-leb, lt-leb}
use Rattle.span.specs.Units.{tab}
use Rattle.span.proofs.ChunkLaws.{leb_iff}
use Rattle.units.specs.declared.diff.Entry.TheVariants.{Retain, Delete, Insert}
use Rattle.apply.specs.declared.item.Item.{Item}
use Rattle.apply.specs.Apply.{Given, Known, Strange, applied, used}
use Rattle.apply.specs.Given.{takes, gives, made, new_len}
use Rattle.apply.proofs.DeltaApplies.{items_length}
use Rattle.apply.proofs.Tabs.{tab_turn, tab_none, tab_all}

pub used-cons : (g : Given) (es : List Given) → used (g ∷ es) ≡ takes g + used es
unfolding used takes
used-cons Strange es = sym (zero-add (used es))
used-cons (Known (Retain n)) es = refl
used-cons (Known (Delete n)) es = refl
used-cons (Known (Insert c i l)) es = sym (zero-add (used es))

pub applied-cons : (g : Given) (es : List Given) (old : List Item) → applied (g ∷ es) old ≡ made g old ++ applied es (drop (takes g) old)
unfolding applied takes made
applied-cons Strange es old = refl
applied-cons (Known (Retain n)) es old = refl
applied-cons (Known (Delete n)) es old = refl
applied-cons (Known (Insert c i l)) es old = refl

pub length-made : (g : Given) (old : List Item) → takes g ≤ length old → length (made g old) ≡ gives g
unfolding made gives takes
length-made Strange old h = refl
length-made (Known (Retain n)) old h = length-take-le n old h
length-made (Known (Delete n)) old h = refl
length-made (Known (Insert c i l)) old h = items_length c i

pub length-applied : (es : List Given) (old : List Item) → used es ≤ length old → length (applied es old) ≡ new_len es (length old)
unfolding new_len applied
length-applied [] old h = refl
length-applied (g ∷ es) old h =
    let u = used-cons g es in
    let d : length (drop (takes g) old) ≡ length old - takes g = length-drop (takes g) old in
    ap length (applied-cons g es old)
    ∙ (length-append (made g old) (applied es (drop (takes g) old))
    ∙ ap₂ ◌+◌ (length-made g old (omega (arith, u))) (length-applied es (drop (takes g) old) (omega (arith, u, d)) ∙ ap (new_len es) d))

-- ---- loops: those from i on are left

module _ (f : ℕ → Given) (n : ℕ) where
  pub used_start : (left : ℕ) → leb (used (tab f 0 n)) left ≡ leb (used (tab f 0 (n - 0))) left
  used_start left = ap (λ (l : List Given). leb (used l) left) (tab_all f n)

  pub left_start : (left : ℕ) → used (tab f 0 n) ≤ left → used (tab f 0 (n - 0)) ≤ left
  left_start left h = rw (sym (tab_all f n)) h

module _ (f : ℕ → Given) (n i : ℕ) where
  used_on : i < n → used (tab f i (n - i)) ≡ takes (f i) + used (tab f (i + 1) (n - (i + 1)))
  used_on h = ap used (tab_turn f n i h) ∙ used-cons (f i) (tab f (i + 1) (n - (i + 1)))

  pub used_turn : (left t : ℕ) → i < n → t ≡ takes (f i) → t ≤ left → leb (used (tab f i (n - i))) left ≡ leb (used (tab f (i + 1) (n - (i + 1)))) (left - t)
  used_turn left t h e k =
      let u = used_on h in
      leb_iff (used (tab f i (n - i))) left (used (tab f (i + 1) (n - (i + 1)))) (left - t) (λ z. omega (arith, u, e)) (λ z. omega (arith, u, e))

  pub used_stop : (left t : ℕ) → i < n → t ≡ takes (f i) → left < t → leb (used (tab f i (n - i))) left ≡ false
  used_stop left t h e k = lt-leb (used (tab f i (n - i))) left (omega (arith, used_on h, e))

  pub used_done : (left : ℕ) → n ≤ i → leb (used (tab f i (n - i))) left ≡ true
  unfolding used
  used_done left h = ap (λ (l : List Given). leb (used l) left) (tab_none f n i h) ∙ le-leb 0 left (omega arith)

  new_on : (left : ℕ) → i < n → new_len (tab f i (n - i)) left ≡ gives (f i) + new_len (tab f (i + 1) (n - (i + 1))) (left - takes (f i))
  unfolding new_len
  new_on left h = ap (λ (l : List Given). new_len l left) (tab_turn f n i h)

  pub left-takes : (left : ℕ) → i < n → used (tab f i (n - i)) ≤ left → takes (f i) ≤ left
  left-takes left h k = omega (arith, used_on h)

  pub left_on : (left t : ℕ) → i < n → t ≡ takes (f i) → used (tab f i (n - i)) ≤ left → used (tab f (i + 1) (n - (i + 1))) ≤ left - t
  left_on left t h e k = omega (arith, used_on h, e)

  pub new_turn : (left free t m : ℕ) → i < n → t ≡ takes (f i) → m ≡ gives (f i) → m ≤ free → leb (new_len (tab f i (n - i)) left) free ≡ leb (new_len (tab f (i + 1) (n - (i + 1))) (left - t)) (free - m)
  new_turn left free t m h e q k =
      let u = new_on left h ∙ ap (λ (x : ℕ). gives (f i) + new_len (tab f (i + 1) (n - (i + 1))) (left - x)) (sym e) in
      leb_iff (new_len (tab f i (n - i)) left) free (new_len (tab f (i + 1) (n - (i + 1))) (left - t)) (free - m) (λ z. omega (arith, u, q)) (λ z. omega (arith, u, q))

  pub new_stop : (left free m : ℕ) → i < n → m ≡ gives (f i) → free < m → leb (new_len (tab f i (n - i)) left) free ≡ false
  new_stop left free m h q k = lt-leb (new_len (tab f i (n - i)) left) free (omega (arith, new_on left h, q))

  pub new_done : (left free : ℕ) → n ≤ i → leb (new_len (tab f i (n - i)) left) free ≡ leb left free
  unfolding new_len
  new_done left free h = ap (λ (l : List Given). leb (new_len l left) free) (tab_none f n i h)

-- the steps of the two loops
pub ruleset used_steps = (used_turn, used_stop, used_done)

pub ruleset new_steps = (left_start, left_on, new_turn, new_stop, new_done)
