-- what a well formed list is, fact by fact, and the check's order of asking
use Prim.Native.Nat.{ℕ, ◌+◌, ◌*◌, ◌<◌, ◌≤◌}
use mathlib.Core.Path.{◌≡◌, refl, sym, ap, ap₂, ◌∙◌}
use mathlib.Core.Bool.{Bool, true, false, ◌&&◌, cond}
use mathlib.Core.List.{List, [], ◌∷◌}
use native.Mathlib.Omega.{arith}
use lib.Dec.{leb}
use lib.ListN.{length}
use borrow.Author.Tests.{leb-true, le-leb, lt-leb, eq-eqb}
use Rattle.span.specs.declared.ids.Id.{Id}
use Rattle.span.specs.Maybe.{OptId}
use Rattle.std.specs.Prelude.{Some as At}
use Rattle.span.specs.declared.span.FugueSpan.{FugueSpan}
use Rattle.span.specs.Span.{len_span, span_code}
use Rattle.span.proofs.SpanLaws.{span_ok}
use Rattle.span.proofs.Views.{len_pos}
use Rattle.span.specs.Units.{expand, Apart, Joined}
use Rattle.store.specs.Row.{rows}
use Rattle.units.specs.Place.{mem_id, Distinct}
use Rattle.units.specs.Store.{touching, joined_rows, distinct_ids, named, origins_named, well_formed}
use Rattle.rope.specs.Spans.{AllOk, Named, AllNamed, Good, apart_rows}
use Rattle.rope.proofs.Lists.{and-true}
use Rattle.rope.proofs.Steps.{joined_ok}
use Rattle.rope.proofs.Checks.{joined_rows_lem}
use Rattle.rope.proofs.Counts.{length_span, named_at}
use Rattle.rope.proofs.Twice.{apart_same, distinct_of, of_distinct}

-- ---- the check's order

pub form_1 : (l : List FugueSpan) → joined_rows l ≡ false → well_formed l ≡ false
unfolding well_formed
form_1 l e = ap (λ (t : Bool). t && (leb (length (expand l)) 65536 && (distinct_ids (expand l) && origins_named l (expand l)))) e

pub form_2 : (l : List FugueSpan) → joined_rows l ≡ true → 65536 < length (expand l) → well_formed l ≡ false
unfolding well_formed
form_2 l e f = ap₂ (λ (t u : Bool). t && (u && (distinct_ids (expand l) && origins_named l (expand l)))) e (lt-leb (length (expand l)) 65536 f)

pub form_3 : (l : List FugueSpan) → joined_rows l ≡ true → length (expand l) ≤ 65536 → (t : Bool) → apart_rows [] l ≡ t → well_formed l ≡ (t && origins_named l (expand l))
unfolding well_formed
form_3 l e f t g =
    ap₂ (λ (t u : Bool). t && (u && (distinct_ids (expand l) && origins_named l (expand l)))) e (le-leb (length (expand l)) 65536 f) ∙
    ap (λ (u : Bool). u && origins_named l (expand l)) (sym (apart_same l (joined_ok l (joined_rows_lem l e))) ∙ g)

pub rows_ok : (l : List FugueSpan) → joined_rows l ≡ true → AllOk l
rows_ok l e = joined_ok l (joined_rows_lem l e)

-- ---- the facts

-- each row has a unit
pub few_rows : (l : List FugueSpan) → AllOk l → length l ≤ length (expand l)
unfolding AllOk
few_rows [] ok = omega arith
few_rows (s ∷ l) ok =
    let a : length (expand (s ∷ l)) ≡ len_span s + length (expand l) = length_span s l in
    let b : 0 < len_span s = len_pos s.content (span_ok s ok.0).form in
    let d : length l ≤ length (expand l) = few_rows l ok.1 in
    omega arith

pub record Formed (l : List FugueSpan) : Type 0 where
  pub joined : Joined l
  pub each : AllOk l
  pub units : length (expand l) ≤ 65536
  pub few : length l ≤ 65536
  pub distinct : Distinct (expand l)
  pub origins : origins_named l (expand l) ≡ true

pub formed_of : (l : List FugueSpan) → well_formed l ≡ true → Formed l
unfolding well_formed
formed_of l e =
    let a = and-true (joined_rows l) (leb (length (expand l)) 65536 && (distinct_ids (expand l) && origins_named l (expand l))) e in
    let b = and-true (leb (length (expand l)) 65536) (distinct_ids (expand l) && origins_named l (expand l)) a.1 in
    let d = and-true (distinct_ids (expand l)) (origins_named l (expand l)) b.1 in
    let u : length (expand l) ≤ 65536 = leb-true (length (expand l)) 65536 b.0 in
    let k : length l ≤ length (expand l) = few_rows l (rows_ok l a.0) in
    record {
      joined = joined_rows_lem l a.0;
      each = rows_ok l a.0;
      units = u;
      few = omega arith;
      distinct = distinct_of (expand l) d.0;
      origins = d.1;
    }

-- an origin that is named and is not none is one of the units
named_unit : (o : OptId) (i : Id) (us : List FugueSpan) → named o us ≡ true → o ≡ At i → mem_id (At i) us ≡ true
named_unit o i us e f = ap (λ (r : OptId). mem_id r us) (sym f) ∙ (named_at o i us f ∙ e)

lefts_named : (l us : List FugueSpan) → origins_named l us ≡ true → AllNamed l us
unfolding origins_named AllNamed Named
lefts_named [] us e = tt
lefts_named (s ∷ l) us e =
    let a = and-true (named s.origin_left us && named s.origin_right us) (origins_named l us) e in
    let b = and-true (named s.origin_left us) (named s.origin_right us) a.0 in
    ((λ i f. named_unit s.origin_left i us b.0 f), lefts_named l us a.1)

-- a well formed list in n rows is what the inner functions ask for
pub good_of : (n : ℕ) (s : List ℕ) → n * 72 ≤ length s → well_formed (rows n s) ≡ true → Good n (length (expand (rows n s))) s
good_of n s h e =
    let f = formed_of (rows n s) e in
    record {
      held = record { long = h; each = f.each; count = refl; few = f.units };
      joined = f.joined;
      distinct = f.distinct;
      named = lefts_named (rows n s) (expand (rows n s)) f.origins;
    }

-- ---- the converse: a list with these facts is well formed, so that 15 is given only as said

rows_joined : (l : List FugueSpan) → Joined l → joined_rows l ≡ true
unfolding joined_rows Joined touching Apart
rows_joined [] j = refl
rows_joined (s ∷ l) j = ap₂ (λ (t u : Bool). cond t (cond u false (joined_rows l)) false) (eq-eqb (span_code s) 0 j.0) (apart_not s l j.1.0) ∙ rows_joined l j.1.1
  where
    apart_not : (s : FugueSpan) (l : List FugueSpan) → Apart s l → touching s l ≡ false
    apart_not s [] a = refl
    apart_not s (t ∷ l) a = a

pub formed_back : (l : List FugueSpan) → Formed l → well_formed l ≡ true
unfolding well_formed
formed_back l f =
    ap₂ (λ (t u : Bool). t && (u && (distinct_ids (expand l) && origins_named l (expand l)))) (rows_joined l f.joined) (le-leb (length (expand l)) 65536 f.units) ∙
    ap₂ (λ (t u : Bool). t && u) (of_distinct (expand l) f.distinct) f.origins
