-- records and columns say the same: what get_diff has in its columns at i is what get_diff_records has in record i
use Prim.Native.Nat.{ℕ, zero, suc, ◌<◌}
use mathlib.Core.Path.{◌≡◌, refl, sym, ap, ◌∙◌}
use mathlib.Core.Bool.{Bool, cond}
use mathlib.Core.List.{List, [], ◌∷◌}
use native.Mathlib.Omega.{arith}
use lib.ListN.{length, drop, get_or, get_or-append}
use borrow.Author.Tests.{eq-eqb}
use Rattle.units.specs.declared.diff.Entry.{Entry}
use Rattle.rope.specs.declared.diff.EntryNumbers.{EntryNumbers}
use Rattle.rope.specs.Maybe.{DiffAnswer}
use Rattle.units.specs.Lists.{over}
use Rattle.units.specs.Store.{spans_of}
use Rattle.units.specs.Delta.{entries}
use Rattle.units.specs.Codes.{kept}
use Rattle.rope.specs.Columns.{column, column_of, least, Diffed, get_diff_code}
use Rattle.records.specs.Records.{records, answer_of, records_after}
use Rattle.records.proofs.Stands.{length-records}

-- ---- one column

module _ (f : EntryNumbers → ℕ) where
  length-column : (es : List Entry) → length (column f es) ≡ length es
  length-column [] = refl
  length-column (e ∷ es) = ap suc (length-column es)

  number_at : (es : List Entry) (i : ℕ) (d : EntryNumbers) (z : ℕ) → i < length es → f (get_or (records es) i d) ≡ get_or (column f es) i z
  number_at [] i d z h = absurd (omega (arith, h))
  number_at (e ∷ es) zero d z h = refl
  number_at (e ∷ es) (suc i) d z h = number_at es i d z (omega (arith, h))

  over_at : (es : List Entry) (out : List EntryNumbers) (col : List ℕ) (i : ℕ) (d : EntryNumbers) (z : ℕ) → i < length es → f (get_or (over (records es) out) i d) ≡ get_or (over (column f es) col) i z
  unfolding over
  over_at es out col i d z h =
      let m : length (records es) ≡ length es = length-records es in
      let n : length (column f es) ≡ length es = length-column es in
      ap f (get_or-append (records es) (drop (length (records es)) out) d i (omega (arith, h, m)))
      ∙ number_at es i d z h
      ∙ sym (get_or-append (column f es) (drop (length (column f es)) col) z i (omega (arith, h, n)))

  -- the same where neither call is refused
  kept_at : (es : List Entry) (out : List EntryNumbers) (col : List ℕ) (c1 c2 i : ℕ) (d : EntryNumbers) (z : ℕ) → c1 ≡ 0 → c2 ≡ 0 → i < length es → f (get_or (kept c1 (over (records es) out) out) i d) ≡ get_or (column_of c2 f es col) i z
  kept_at es out col c1 c2 i d z e1 e2 h =
      ap (λ (t : Bool). f (get_or (cond t (over (records es) out) out) i d)) (eq-eqb c1 0 e1)
      ∙ over_at es out col i d z h
      ∙ sym (ap (λ (t : Bool). get_or (cond t (over (column f es) col) col) i z) (eq-eqb c2 0 e2))

-- ---- all six

-- a record is what the columns have at i
pub record Alike (i : ℕ) (x : EntryNumbers) (k a b p c l : List ℕ) : Type 0 where
  pub kind : x.kind ≡ get_or k i 0
  pub first : x.a ≡ get_or a i 0
  pub second : x.b ≡ get_or b i 0
  pub peer : x.peer ≡ get_or p i 0
  pub counter : x.counter ≡ get_or c i 0
  pub lamport : x.lamport ≡ get_or l i 0

module _ (s : List ℕ) (k a b p c l k2 a2 b2 p2 c2 l2 : List ℕ) (r : DiffAnswer) (out zs : List EntryNumbers) where
  abbrev room : ℕ
  room = least (length k) (length a) (length b) (length p) (length c) (length l)

  abbrev es : List Entry
  es = entries (spans_of s)

  module _ (columns : Diffed (get_diff_code room s) (spans_of s) r k a b p c l k2 a2 b2 p2 c2 l2) where
    -- record i is what the columns have at i, for each entry, where both calls are accepted
    pub columned : zs ≡ records_after s out → get_diff_code room s ≡ 0 → get_diff_code (length out) s ≡ 0 → (i : ℕ) (d : EntryNumbers) → i < length es → Alike i (get_or zs i d) k2 a2 b2 p2 c2 l2
    columned q u v i d h =
        record {
          kind = same (λ (x : EntryNumbers). x.kind) k k2 columns.kind;
          first = same (λ (x : EntryNumbers). x.a) a a2 columns.first;
          second = same (λ (x : EntryNumbers). x.b) b b2 columns.second;
          peer = same (λ (x : EntryNumbers). x.peer) p p2 columns.peer;
          counter = same (λ (x : EntryNumbers). x.counter) c c2 columns.counter;
          lamport = same (λ (x : EntryNumbers). x.lamport) l l2 columns.lamport;
        }
      where
        same : (f : EntryNumbers → ℕ) (col col2 : List ℕ) → col2 ≡ column_of (get_diff_code room s) f es col → f (get_or zs i d) ≡ get_or col2 i 0
        same f col col2 e =
            ap (λ (y : List EntryNumbers). f (get_or y i d)) q
            ∙ kept_at f es out col (get_diff_code (length out) s) (get_diff_code room s) i d 0 v u h
            ∙ ap (λ (y : List ℕ). get_or y i 0) (sym e)

    -- in rooms of one length the two calls answer alike, refused or not
    pub answered : length out ≡ room → r ≡ answer_of (length out) s
    answered e = rw e columns.said
