-- where the loop of write_records stands: k records are stored, and some entries are left
use Prim.Native.Nat.{ℕ, suc, ◌+◌, ◌<◌, ◌≤◌}
use mathlib.Core.Path.{◌≡◌, refl, sym, ap, ◌∙◌}
use mathlib.Core.List.{List, [], ◌∷◌}
use native.Mathlib.Omega.{arith}
use lib.ListN.{length, set, drop, length-set}
use Rattle.span.specs.declared.span.FugueSpan.{FugueSpan}
use Rattle.rope.specs.declared.diff.EntryNumbers.{EntryNumbers}
use Rattle.units.specs.declared.diff.Entry.{Entry}
use Rattle.units.specs.Lists.{over}
use Rattle.units.specs.Delta.{entries_from, entries}
use Rattle.rope.specs.Columns.{entry_numbers}
use Rattle.records.specs.Records.{records}

-- ---- stores at k, k + 1, .. are a list laid over another

abbrev pub lay : {A : Type 0} → ℕ → List A → List A → List A
lay k [] ys = ys
lay k (x ∷ xs) ys = lay (k + 1) xs (set ys k x)

lay_past : {A : Type 0} (k : ℕ) (xs ys : List A) (y : A) → lay (suc k) xs (y ∷ ys) ≡ y ∷ lay k xs ys
lay_past k [] ys y = refl
lay_past k (x ∷ xs) ys y = ap (λ (m : ℕ). lay m xs (y ∷ set ys k x)) (let e : suc k + 1 ≡ suc (k + 1) = omega arith in e) ∙ lay_past (k + 1) xs (set ys k x) y

pub lay-over : {A : Type 0} (xs ys : List A) → length xs ≤ length ys → lay 0 xs ys ≡ over xs ys
unfolding over
lay-over [] ys h = refl
lay-over (x ∷ xs) [] h = absurd (omega (arith, h))
lay-over (x ∷ xs) (y ∷ ys) h = lay_past 0 xs ys x ∙ ap (λ l. x ∷ l) (lay-over xs ys (omega (arith, h)))

pub length-records : (es : List Entry) → length (records es) ≡ length es
length-records [] = refl
length-records (e ∷ es) = ap suc (length-records es)

-- ---- the loop

-- ys is the slice with the first k of the entries stored: rest are those that are left
pub record Standing (all rest : List Entry) (k : ℕ) (out ys : List EntryNumbers) : Type 0 where
  pub long : length ys ≡ length out
  pub fits : k + length rest ≤ length out
  pub laid : lay k (records rest) ys ≡ over (records all) out

pub stand_start : (spans : List FugueSpan) (out : List EntryNumbers) → length (entries spans) ≤ length out → Standing (entries spans) (entries_from (drop 0 spans) 0) 0 out out
unfolding entries
stand_start spans out h =
    let all = entries_from spans 0 in
    let z : length (records all) ≡ length all = length-records all in
    record { long = refl; fits = omega (arith, h); laid = lay-over (records all) out (omega (arith, z, h)) }

module _ (all rest : List Entry) (k : ℕ) (out ys : List EntryNumbers) (v : Standing all rest k out ys) where
  pub stand_end : rest ≡ [] → ys ≡ over (records all) out
  stand_end e = sym (ap (λ (l : List Entry). lay k (records l) ys) e) ∙ v.laid

  module _ (e : Entry) (left : List Entry) (at : rest ≡ e ∷ left) where
    some_left : length rest ≡ suc (length left)
    some_left = ap length at

    pub stand_in : k < length ys
    stand_in = omega (arith, some_left, v.fits, v.long)

    pub stand_next : (x : EntryNumbers) → x ≡ entry_numbers e → Standing all left (k + 1) out (set ys k x)
    stand_next x q =
        record {
          long = length-set ys k x ∙ v.long;
          fits = omega (arith, some_left, v.fits);
          laid = ap (λ (y : EntryNumbers). lay (k + 1) (records left) (set ys k y)) q ∙ (ap (λ (l : List Entry). lay k (records l) ys) (sym at) ∙ v.laid);
        }
