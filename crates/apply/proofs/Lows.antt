-- The lowest refusal over the whole input.
use Prim.Native.Nat.{ℕ, ◌+◌, ◌-◌, ◌<◌, ◌≤◌}
use mathlib.Core.Path.{◌≡◌, refl, sym, ap, ap₂, ◌∙◌}
use mathlib.Core.Bool.{Bool, true, false, ◌&&◌, cond}
use mathlib.Core.List.{List, [], ◌∷◌}
use native.Mathlib.Omega.{arith}
use lib.Dec.{eqb, leb}
use lib.ListN.{length}
use Rattle.std.proofs.lemmas.Bool.Decides.{nat_tests}
use Rattle.span.specs.declared.chunk.RichtextChunk.{RichtextChunk}
use Rattle.span.specs.declared.ids.Id.{Id}
use Rattle.span.specs.Answer.{lower}
use Rattle.span.specs.Units.{tab}
use Rattle.units.specs.Maybe.{OptLamport}
use Rattle.units.specs.declared.diff.Entry.TheVariants.{Insert}
use Rattle.units.specs.Lists.{every}
use Rattle.apply.specs.declared.item.Item.{Item}
use Rattle.apply.specs.Apply.{Given, Known, item_formed, item_ids, item_single, entry_formed, entry_ids, entry_known, used, applied, apply_code}
use Rattle.apply.specs.Given.{given_code, insert_code, item_code, lowest}
use Rattle.apply.proofs.Tabs.{tab_turn, tab_none, tab_all}

-- 1, 2 or 14 by three tests
abbrev pub code_by : Bool → Bool → Bool → ℕ
code_by p q r = cond p (cond q (cond r 0 14) 2) 1

lower_codes : (p q r p2 q2 r2 : Bool) → lower (code_by p q r) (code_by p2 q2 r2) ≡ code_by (p && p2) (q && q2) (r && r2)
unfolding lower
lower_codes true true true p2 q2 r2 = refl
lower_codes true true false true true true = refl
lower_codes true true false true true false = refl
lower_codes true true false true false r2 = refl
lower_codes true true false false q2 r2 = refl
lower_codes true false r true true true = refl
lower_codes true false r true true false = refl
lower_codes true false r true false r2 = refl
lower_codes true false r false q2 r2 = refl
lower_codes false q r true true true = refl
lower_codes false q r true true false = refl
lower_codes false q r true false r2 = refl
lower_codes false q r false q2 r2 = refl

lowest_entries : (l : List Given) → lowest given_code l ≡ code_by (every entry_formed l) (every entry_ids l) (every entry_known l)
unfolding lowest every given_code
lowest_entries [] = refl
lowest_entries (g ∷ l) =
    ap (lower (code_by (entry_formed g) (entry_ids g) (entry_known g))) (lowest_entries l)
    ∙ lower_codes (entry_formed g) (entry_ids g) (entry_known g) (every entry_formed l) (every entry_ids l) (every entry_known l)

lowest_items : (l : List Item) → lowest item_code l ≡ code_by (every item_formed l) (every item_ids l) (every item_single l)
unfolding lowest every item_code
lowest_items [] = refl
lowest_items (x ∷ l) =
    ap (lower (code_by (item_formed x) (item_ids x) (item_single x))) (lowest_items l)
    ∙ lower_codes (item_formed x) (item_ids x) (item_single x) (every item_formed l) (every item_ids l) (every item_single l)

-- the number of the call, by the lowest one, whether the old units suffice, and whether the output does
pub apply_code_lem : (out : List Item) (es : List Given) (old : List Item) (u v : Bool) → leb (used es) (length old) ≡ u → leb (length (applied es old)) (length out) ≡ v
    → apply_code out es old ≡ cond (eqb (lower (lowest given_code es) (lowest item_code old)) 0) (cond u (cond v 0 13) 14) (lower (lowest given_code es) (lowest item_code old))
unfolding apply_code
apply_code_lem out es old u v e f =
    ap₂ (λ (s t : Bool). cond P (cond Q (cond (every entry_known es && (every item_single old && s)) (cond t 0 13) 14) 2) 1) e f
    ∙ (by P Q (every entry_known es) (every item_single old) u (cond v 0 13)
    ∙ sym (ap (λ (k : ℕ). cond (eqb k 0) (cond u (cond v 0 13) 14) k) both))
  where
    P : Bool
    P = every entry_formed es && every item_formed old

    Q : Bool
    Q = every entry_ids es && every item_ids old

    both : lower (lowest given_code es) (lowest item_code old) ≡ code_by P Q (every entry_known es && every item_single old)
    both = ap₂ lower (lowest_entries es) (lowest_items old) ∙ lower_codes (every entry_formed es) (every entry_ids es) (every entry_known es) (every item_formed old) (every item_ids old) (every item_single old)

    by : (p q r s t : Bool) (k : ℕ) → cond p (cond q (cond (r && (s && t)) k 14) 2) 1 ≡ cond (eqb (code_by p q (r && s)) 0) (cond t k 14) (code_by p q (r && s))
    by false q r s t k = refl
    by true false r s t k = refl
    by true true false s t k = refl
    by true true true false t k = refl
    by true true true true true k = refl
    by true true true true false k = refl

-- ---- a loop over a list: what was met, and what is left from i on

lower_assoc : (x y z : ℕ) → lower (lower x y) z ≡ lower x (lower y z)
unfolding lower
lower_assoc x y z = grind (arith, nat_tests)

lower_end : (x : ℕ) → lower x 0 ≡ x
unfolding lower
lower_end x = grind (arith, nat_tests)

module _ {A : Type 0} (F : A → ℕ) (f : ℕ → A) (n : ℕ) where
  pub low_start : lower 0 (lowest F (tab f 0 (n - 0))) ≡ lowest F (tab f 0 n)
  unfolding lower
  low_start = ap (lowest F) (sym (tab_all f n))

  pub low_next : (i c k d : ℕ) → i < n → lower c (lowest F (tab f i (n - i))) ≡ lowest F (tab f 0 n) → k ≡ F (f i) → d ≡ lower c k
      → lower d (lowest F (tab f (i + 1) (n - (i + 1)))) ≡ lowest F (tab f 0 n)
  unfolding lowest
  low_next i c k d h e p q =
      rw (q, p) (lower_assoc c (F (f i)) (lowest F (tab f (i + 1) (n - (i + 1)))) ∙ (sym (ap (λ (l : List A). lower c (lowest F l)) (tab_turn f n i h)) ∙ e))

  pub low_end : (i c : ℕ) → n ≤ i → lower c (lowest F (tab f i (n - i))) ≡ lowest F (tab f 0 n) → c ≡ lowest F (tab f 0 n)
  unfolding lowest
  low_end i c h e = sym (lower_end c) ∙ (sym (ap (λ (l : List A). lower c (lowest F l)) (tab_none f n i h)) ∙ e)

-- the steps of that loop
pub ruleset low_steps = (low_start, low_next, low_end)

-- ---- one entry

pub code_insert : (c : RichtextChunk) (i : Id) (l : OptLamport) → insert_code c i l ≡ given_code (Known (Insert c i l))
unfolding given_code insert_code entry_formed entry_ids entry_known
code_insert c i l = refl
