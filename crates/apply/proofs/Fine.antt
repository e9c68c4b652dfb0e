-- The delta of a well formed list: its numbers say it, nothing refuses its entries, and it uses no more units than are visible.
use Prim.Native.Nat.{ℕ, ◌+◌, ◌≤◌}
use mathlib.Core.Path.{◌≡◌, refl, ap, ◌∙◌}
use mathlib.Core.Bool.{Bool, true, false, not, ◌&&◌, cond, false≢true}
use mathlib.Core.List.{List, [], ◌∷◌, map}
use native.Mathlib.Omega.{arith}
use lib.Dec.{eqb}
use lib.ListN.{length, length-append}
use borrow.Author.Tests.{eqb-true, eqb-false, ne_eqb, le-leb}
use mir.Facts.{to_z-of_z}
use Rattle.std.specs.Prelude.{None, Some}
use Rattle.span.specs.Maybe.{OptId}
use Rattle.span.specs.declared.span.FugueSpan.{FugueSpan}
use Rattle.span.specs.declared.span.DiffStatus.{DiffStatus}
use Rattle.span.specs.declared.span.DiffStatus.TheVariants.{NotChanged, Created, Deleted}
use Rattle.span.specs.Ids.{UNKNOWN_PEER, room_opt}
use Rattle.span.specs.Span.{len_span, span_code, active_len, real_by, real_of, diff_of}
use Rattle.span.specs.Units.{units_of, expand}
use Rattle.span.proofs.SpanLaws.{span_ok}
use Rattle.span.proofs.Views.{len_pos}
use Rattle.units.specs.Lists.{every}
use Rattle.rope.specs.Spans.{AllOk}
use Rattle.units.specs.Maybe.{OptLamport}
use Rattle.units.specs.declared.diff.Entry.{Entry}
use Rattle.units.specs.declared.diff.Entry.TheVariants.{Retain, Delete, Insert}
use Rattle.units.specs.Delta.{lamport_of, insert_of_span, retain, entry_by, entries_from, entries, is_real, real_if_created, insertable}
use Rattle.rope.specs.Columns.{entry_numbers}
use Rattle.rope.proofs.Lists.{and-true}
use Rattle.apply.specs.Apply.{Known, items, used, lamport_fits, entry_formed, entry_ids, entry_known}
use Rattle.apply.specs.Given.{given_of}
use Rattle.apply.proofs.DeltaApplies.{items-append, Turn, stays, comes, goes, turn, entries_by}
use Rattle.apply.proofs.Shown.{row_length, active_all}
use Rattle.apply.proofs.Sound.{real_room, room_fits}
use Rattle.apply.proofs.Back.{Said, AllSaid}

-- ---- one entry

pub record Fine (e : Entry) : Type 0 where
  pub said : Said e
  pub formed : entry_formed (Known e) ≡ true
  pub ids : entry_ids (Known e) ≡ true
  pub known : entry_known (Known e) ≡ true

fine_retain : (n : ℕ) → (n ≡ 0 → ⊥) → Fine (Retain n)
unfolding given_of entry_numbers entry_formed entry_ids entry_known
fine_retain n z = record { said = refl; formed = refl; ids = refl; known = ap not (ne_eqb n 0 z) }

fine_delete : (n : ℕ) → (n ≡ 0 → ⊥) → Fine (Delete n)
unfolding given_of entry_numbers entry_formed entry_ids entry_known
fine_delete n z = record { said = refl; formed = refl; ids = refl; known = ap not (ne_eqb n 0 z) }

module _ (s : FugueSpan) (ok : span_code s ≡ 0) where
  -- what comes in has a real id
  real_known : is_real s.real_id ≡ true → room_opt (Some (real_of s)) (len_span s) ≡ true
  unfolding real_of
  real_known e = go s.real_id e (span_ok s ok).real
    where
      go : (o : OptId) → is_real o ≡ true → room_opt o (len_span s) ≡ true → room_opt (Some (real_by o s.id)) (len_span s) ≡ true
      go None r q = absurd (false≢true r)
      go (Some i) r q = q

  lamport_fits_lem : lamport_fits (lamport_of s) (len_span s) ≡ true
  unfolding lamport_fits lamport_of
  lamport_fits_lem = go (eqb s.id.peer UNKNOWN_PEER)
    where
      go : (t : Bool) → lamport_fits (cond t None (Some s.lamport)) (len_span s) ≡ true
      go true = refl
      go false = le-leb (s.lamport + len_span s) 4294967295 (span_ok s ok).lam

  insert_said : Said (insert_of_span s)
  unfolding given_of entry_numbers insert_of_span
  insert_said = go (lamport_of s)
    where
      go : (l : OptLamport) → Said (Insert s.content (real_of s) l)
      go None = rw (to_z-of_z (room_fits (real_of s) (len_span s) (real_room s ok)))
      go (Some n) = rw (to_z-of_z (room_fits (real_of s) (len_span s) (real_room s ok)))

  fine_insert : is_real s.real_id ≡ true → Fine (insert_of_span s)
  unfolding insert_of_span entry_formed entry_ids entry_known
  fine_insert e =
      record {
        said = insert_said;
        formed = (span_ok s ok).form;
        ids = ap (λ (t : Bool). t && lamport_fits (lamport_of s) (len_span s)) (real_known e) ∙ lamport_fits_lem;
        known = refl;
      }

  some_units : len_span s ≡ 0 → ⊥
  some_units z = omega (arith, len_pos s.content (span_ok s ok).form, z)

-- ---- all of them

unfoldable pub AllFine : List Entry → Type 0
AllFine [] = Unit {0}
AllFine (e ∷ es) = Fine e × AllFine es

fine_gap : (gap : ℕ) (es : List Entry) → AllFine es → AllFine (retain gap es)
unfolding retain AllFine
fine_gap gap es v = go (eqb gap 0) refl
  where
    go : (t : Bool) → eqb gap 0 ≡ t → AllFine (cond t es (Retain gap ∷ es))
    go true e = v
    go false e = (fine_retain gap (eqb-false gap 0 e), v)

fine_from : (l : List FugueSpan) (gap : ℕ) → AllOk l → every insertable l ≡ true → AllFine (entries_from l gap)
unfolding entries_from AllOk every AllFine insertable
fine_from [] gap a e = tt
fine_from (s ∷ l) gap a e =
    let b = and-true (real_if_created (diff_of s) s.real_id) (every insertable l) e in
    go (diff_of s) b.0 (fine_from l (gap + active_len s) a.1 b.1) (fine_from l 0 a.1 b.1)
  where
    go : (d : DiffStatus) → real_if_created d s.real_id ≡ true → AllFine (entries_from l (gap + active_len s)) → AllFine (entries_from l 0) → AllFine (entry_by d gap s (entries_from l (gap + active_len s)) (entries_from l 0))
    go NotChanged r on from = on
    go Created r on from = fine_gap gap (insert_of_span s ∷ entries_from l 0) (fine_insert s a.0 r, from)
    go Deleted r on from = fine_gap gap (Delete (len_span s) ∷ entries_from l 0) (fine_delete (len_span s) (some_units s a.0), from)

pub fine_entries : (l : List FugueSpan) → AllOk l → every insertable l ≡ true → AllFine (entries l)
unfolding entries
fine_entries l a e = fine_from l 0 a e

pub all_said : (es : List Entry) → AllFine es → AllSaid es
unfolding AllFine AllSaid
all_said [] v = tt
all_said (e ∷ es) v = (v.0.said, all_said es v.1)

pub all_formed : (es : List Entry) → AllFine es → every entry_formed (map Known es) ≡ true
unfolding AllFine every
all_formed [] v = refl
all_formed (e ∷ es) v = ap (λ (t : Bool). t && every entry_formed (map Known es)) v.0.formed ∙ all_formed es v.1

pub all_ids : (es : List Entry) → AllFine es → every entry_ids (map Known es) ≡ true
unfolding AllFine every
all_ids [] v = refl
all_ids (e ∷ es) v = ap (λ (t : Bool). t && every entry_ids (map Known es)) v.0.ids ∙ all_ids es v.1

pub all_known : (es : List Entry) → AllFine es → every entry_known (map Known es) ≡ true
unfolding AllFine every
all_known [] v = refl
all_known (e ∷ es) v = ap (λ (t : Bool). t && every entry_known (map Known es)) v.0.known ∙ all_known es v.1

-- ---- the old units that it uses

used-gap : (gap : ℕ) (es : List Entry) → used (map Known (retain gap es)) ≡ gap + used (map Known es)
unfolding retain used
used-gap gap es = go (eqb gap 0) refl
  where
    go : (t : Bool) → eqb gap 0 ≡ t → used (map Known (cond t es (Retain gap ∷ es))) ≡ gap + used (map Known es)
    go true e = let z : gap ≡ 0 = eqb-true gap 0 e in omega arith
    go false e = refl

insert_uses : (s : FugueSpan) (es : List Entry) → used (map Known (insert_of_span s ∷ es)) ≡ used (map Known es)
unfolding used insert_of_span
insert_uses s es = refl

delete_uses : (n : ℕ) (es : List Entry) → used (map Known (Delete n ∷ es)) ≡ n + used (map Known es)
unfolding used
delete_uses n es = refl

visible_cons : (s : FugueSpan) (l : List FugueSpan) → length (items (expand (s ∷ l))) ≡ active_len s + length (items (expand l))
unfolding expand
visible_cons s l =
    ap length (items-append (units_of s) (expand l))
    ∙ (length-append (items (units_of s)) (items (expand l)) ∙ ap (λ (n : ℕ). n + length (items (expand l))) (row_length s))

used_from : (l : List FugueSpan) (gap : ℕ) → used (map Known (entries_from l gap)) ≤ gap + length (items (expand l))
unfolding entries_from used
used_from [] gap = omega arith
used_from (s ∷ l) gap = go (used_from l) (turn s)
  where
    v : length (items (expand (s ∷ l))) ≡ active_len s + length (items (expand l))
    v = visible_cons s l

    by : (d : DiffStatus) → diff_of s ≡ d → used (map Known (entries_from (s ∷ l) gap)) ≡ used (map Known (entry_by d gap s (entries_from l (gap + active_len s)) (entries_from l 0)))
    by d e = ap (λ (es : List Entry). used (map Known es)) (entries_by s l gap d e)

    go : ((g : ℕ) → used (map Known (entries_from l g)) ≤ g + length (items (expand l))) → Turn s → used (map Known (entries_from (s ∷ l) gap)) ≤ gap + length (items (expand (s ∷ l)))
    go on (stays t d a b) = omega (arith, by NotChanged d, on (gap + active_len s), v)
    go on (comes d a b) = omega (arith, by Created d, used-gap gap (insert_of_span s ∷ entries_from l 0), insert_uses s (entries_from l 0), on 0, v)
    go on (goes d a b) = omega (arith, by Deleted d, used-gap gap (Delete (len_span s) ∷ entries_from l 0), delete_uses (len_span s) (entries_from l 0), on 0, active_all s a, v)

pub used-entries : (l : List FugueSpan) → used (map Known (entries l)) ≤ length (items (expand l))
unfolding entries
used-entries l = omega (arith, used_from l 0)
