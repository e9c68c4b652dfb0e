-- plans: what they leave, and that it is what 01 says of units
use Prim.Native.Nat.{ℕ, suc, ◌+◌, ◌-◌, ◌*◌, ◌<◌, ◌≤◌}
use mathlib.Core.Path.{◌≡◌, sym, ap, ap₂, subst, ◌∙◌}
use mathlib.Core.Bool.{true, false}
use mathlib.Core.List.{List, ◌∷◌, ◌++◌}
use native.Mathlib.Omega.{arith}
use lib.ListN.{length, set, take, drop, length-append, length-drop, length-set}
use lib.Seq.{length-take-le}
use Rattle.span.specs.Maybe.{OptId}
use Rattle.std.specs.Prelude.{None as Nothing}
use Rattle.span.specs.declared.span.FugueSpan.{FugueSpan}
use Rattle.span.specs.Span.{len_span, span_code, left_of, joins_span, merged_span, part_span}
use Rattle.span.specs.Units.{expand, join}
use Rattle.span.proofs.Unique.{len_small}
use Rattle.store.specs.Row.{rows, row_at, PutRow}
use Rattle.store.proofs.Laws.{length-rows}
use Rattle.rope.specs.declared.insert.Plan.{Plan}
use Rattle.rope.specs.declared.insert.Plan.TheVariants.{Join, Own, Cut}
use Rattle.rope.specs.declared.seek.Cursor.{Cursor}
use Rattle.units.specs.Place.{first_past, with_origins, insert_units}
use Rattle.rope.specs.Spans.{place_s, bordered, Border, border_units, AtBorder, Ready, seek_in}
use Rattle.rope.specs.Plans.{cut_first, cut_rows, planned, plan_rows, Cuts, Can, Planned}
use Rattle.rope.proofs.Rights.{row_drop}
use Rattle.rope.proofs.Borders.{border_merge, border_own, border_first, set_row}
use Rattle.rope.proofs.Steps.{three}
use Rattle.rope.proofs.Whole.{low, same, border}
use Rattle.rope.proofs.Inserts.{Here, here_at, ok, end_law, zero_law, end_border, cut_plan}

-- ---- before a row

module _ (n : ℕ) (s : List ℕ) (r : ℕ) (y : FugueSpan) (b : Border n r y s) where
  pub plan_join : (left both : FugueSpan) → 0 < r → left ≡ row_at s ((r - 1) * 72) → joins_span left y ≡ true → both ≡ merged_span left y → Planned (Join (r - 1) both) n (bordered r y (rows n s)) s
  unfolding planned Can
  plan_join left both some e h f =
      record {
        can = omega (arith, b.at, some);
        list = ap (set (rows n s) (r - 1)) (f ∙ ap (λ (l : FugueSpan). merged_span l y) e) ∙
            border_merge n s r y b some (ap (λ (l : FugueSpan). joins_span l y) (sym e) ∙ h);
      }

  pub plan_own : (left : FugueSpan) → 0 < r → left ≡ row_at s ((r - 1) * 72) → joins_span left y ≡ false → Planned (Own r y) n (bordered r y (rows n s)) s
  unfolding planned Can
  plan_own left some e h = record { can = b.at; list = border_own n s r y b some (ap (λ (l : FugueSpan). joins_span l y) (sym e) ∙ h) }

  pub plan_first : r ≤ 0 → Planned (Own r y) n (bordered r y (rows n s)) s
  unfolding planned Can
  plan_first h = record { can = b.at; list = border_first n s r y b h }

-- ---- how many rows

module _ (n : ℕ) (s : List ℕ) where
  front : (r : ℕ) → r ≤ n → length (take r (rows n s)) ≡ r
  front r h = length-take-le r (rows n s) (subst (λ (k : ℕ). r ≤ k) (sym (length-rows n s)) h)

  back : (r : ℕ) → length (drop r (rows n s)) ≡ n - r
  back r = length-drop r (rows n s) ∙ ap (λ (k : ℕ). k - r) (length-rows n s)

  pub plan_length : (p : Plan) → Can p n s → length (planned p (rows n s)) ≡ plan_rows p n
  unfolding planned plan_rows Can
  plan_length (Join r both) h = length-set (rows n s) r both ∙ length-rows n s
  plan_length (Own r y) h =
      length-append (take r (rows n s)) (y ∷ drop r (rows n s)) ∙
      (ap₂ (λ (a b : ℕ). a + suc b) (front r h) (back r) ∙ (let e : r + suc (n - r) ≡ n + 1 = omega arith in e))
  plan_length (Cut r i y) h =
      ap (λ (l : List FugueSpan). length (take r (rows n s) ++ cut_first l i y)) (row_drop n s r h.at) ∙
      (length-append (take r (rows n s)) (cut_first (row_at s (r * 72) ∷ drop (r + 1) (rows n s)) i y) ∙
      (ap₂ (λ (a b : ℕ). a + suc (suc (suc b))) (front r (omega (arith, h.at))) (back (r + 1)) ∙ (let e : r + suc (suc (suc (n - (r + 1)))) ≡ n + 2 = omega (arith, h.at) in e)))

  -- ---- two rows more

  pub cut_rows_lem : (r i : ℕ) (y a b : FugueSpan) (R1 R2 R3 : List FugueSpan) → Cuts n r i s → a ≡ part_span (row_at s (r * 72)) 0 i → b ≡ part_span (row_at s (r * 72)) i (len_span (row_at s (r * 72)))
      → R1 ≡ set (rows n s) r a → R2 ≡ take (r + 1) R1 ++ y ∷ drop (r + 1) R1 → R3 ≡ take (r + 2) R2 ++ b ∷ drop (r + 2) R2 → R3 ≡ cut_rows r i y (rows n s)
  cut_rows_lem r i y a b R1 R2 R3 w ea eb e1 e2 e3 =
      three (take r (rows n s)) a y b (drop (r + 1) (rows n s)) r {R1 = R1} {R2 = R2} {R3 = R3} (front r (omega (arith, w.at))) (e1 ∙ set_row n s r w.at a) e2 e3 ∙
      (ap₂ (λ (u v : FugueSpan). take r (rows n s) ++ u ∷ (y ∷ (v ∷ drop (r + 1) (rows n s)))) ea eb ∙
      sym (ap (λ (l : List FugueSpan). take r (rows n s) ++ cut_first l i y) (row_drop n s r w.at)))

-- ---- a plan carried out, by what it is

module _ (n : ℕ) (s : List ℕ) (p : Plan) (can : Can p n s) where
  module _ (r : ℕ) (both : FugueSpan) (e : p ≡ Join r both) where
    pub at_join : r < n
    unfolding Can
    at_join = subst (λ (q : Plan). Can q n s) e can

    pub joined_done : (t : List ℕ) → n * 72 ≤ length s → PutRow r both s t → rows (plan_rows p n) t ≡ planned p (rows n s)
    unfolding planned plan_rows
    joined_done t h put =
        ap (λ (q : Plan). rows (plan_rows q n) t) e ∙ (put.list n h at_join ∙ sym (ap (λ (q : Plan). planned q (rows n s)) e))

  module _ (r : ℕ) (y : FugueSpan) (e : p ≡ Own r y) where
    pub at_own : r ≤ n
    unfolding Can
    at_own = subst (λ (q : Plan). Can q n s) e can

    pub own_room : plan_rows p n * 72 ≤ length s → n * 72 + 72 ≤ length s
    unfolding plan_rows
    own_room h = let k : plan_rows p n ≡ n + 1 = ap (λ (q : Plan). plan_rows q n) e in omega (arith, h, k)

    pub own_done : (t : List ℕ) → rows (n + 1) t ≡ take r (rows n s) ++ y ∷ drop r (rows n s) → rows (plan_rows p n) t ≡ planned p (rows n s)
    unfolding planned plan_rows
    own_done t f = ap (λ (q : Plan). rows (plan_rows q n) t) e ∙ (f ∙ sym (ap (λ (q : Plan). planned q (rows n s)) e))

  module _ (r i : ℕ) (y : FugueSpan) (e : p ≡ Cut r i y) where
    pub at_cut : Cuts n r i s
    unfolding Can
    at_cut = subst (λ (q : Plan). Can q n s) e can

    pub cut_room : plan_rows p n * 72 ≤ length s → n * 72 + 144 ≤ length s
    unfolding plan_rows
    cut_room h = let k : plan_rows p n ≡ n + 2 = ap (λ (q : Plan). plan_rows q n) e in omega (arith, h, k)

    pub cut_done : (t : List ℕ) → rows (n + 2) t ≡ cut_rows r i y (rows n s) → rows (plan_rows p n) t ≡ planned p (rows n s)
    unfolding planned plan_rows
    cut_done t f = ap (λ (q : Plan). rows (plan_rows q n) t) e ∙ (f ∙ sym (ap (λ (q : Plan). planned q (rows n s)) e))

-- ---- by a cursor before a row

module _ (n units at : ℕ) (x : OptId) (s : FugueSpan) (b : List ℕ) (w : AtBorder n units at x s b) where
  abbrev o : OptId
  o = first_past (expand (drop at (rows n b)))

  module _ (right : OptId) (r : ℕ) (eo : right ≡ o) (er : r ≡ place_s (rows n b) at x right s.id.peer) where
    place_of : r ≡ place_s (rows n b) at x o s.id.peer
    place_of = er ∙ ap (λ (z : OptId). place_s (rows n b) at x z s.id.peer) eo

    pub scan_low : at + r ≤ n
    scan_low = omega (arith, low n units at x s b w, place_of)

    module _ (y : FugueSpan) (ey : y ≡ with_origins s x right) where
      span_of_lem : y ≡ with_origins s x o
      span_of_lem = ey ∙ ap (λ (z : OptId). with_origins s x z) eo

      pub scan_border : Border n (at + r) y b
      scan_border =
          subst (λ (k : ℕ). Border n (at + k) y b) (sym place_of)
          (subst (λ (z : FugueSpan). Border n (at + place_s (rows n b) at x o s.id.peer) z b) (sym span_of_lem) (border n units at x s b w))

      pub scan_plan : (p : Plan) → Planned p n (bordered (at + r) y (rows n b)) b → Planned p n (border_units at x s (rows n b)) b
      scan_plan p q =
          record {
            can = q.can;
            list = q.list ∙ (ap₂ (λ (k : ℕ) (z : FugueSpan). join (bordered (at + k) z (rows n b))) place_of span_of_lem ∙ ap join (sym (same n units at x s b w)));
          }

-- ---- by a cursor after a visible unit

module _ (n units p : ℕ) (x : FugueSpan) (b : List ℕ) (w : Ready n units p x b) (some : 0 < p) (c : Cursor) (e : c ≡ seek_in (rows n b) p 0) where
  abbrev S : FugueSpan
  S = row_at b (c.row * 72)

  H : Here n b p c.row c.offset
  H = here_at n b p c some w.low e

  pub after_low : c.row < n
  after_low = H.low

  pub after_room : c.row * 72 + 72 ≤ length b
  after_room = omega (arith, H.low, w.good.held.long)

  module _ (row : FugueSpan) (er : row ≡ S) where
    fine : span_code row ≡ 0
    fine = ap span_code er ∙ ok n units p x b c.row c.offset H w.good

    pub after_row : (span_code row ≡ 0) × (c.offset ≤ len_span row)
    after_row = (fine, subst (λ (z : FugueSpan). c.offset ≤ len_span z) (sym er) H.most)

    module _ (left : OptId) (len : ℕ) (el : left ≡ left_of row c.offset) (en : len ≡ len_span row) where
      left_is : left ≡ left_of S c.offset
      left_is = el ∙ ap (λ (z : FugueSpan). left_of z c.offset) er

      len_is : len ≡ len_span S
      len_is = en ∙ ap len_span er

      pub after_border : c.offset ≡ len → AtBorder n units (c.row + 1) left x b
      after_border z = subst (λ (o : OptId). AtBorder n units (c.row + 1) o x b) (sym left_is) (end_border n units p x b c.row c.offset w H (z ∙ len_is))

      pub after_scan : c.offset ≡ len → (q : Plan) → Planned q n (border_units (c.row + 1) left x (rows n b)) b → Planned q n (insert_units p x (expand (rows n b))) b
      after_scan z q v =
          record {
            can = v.can;
            list = v.list ∙
                (ap (λ (o : OptId). join (border_units (c.row + 1) o x (rows n b))) left_is ∙
                ap join (sym (end_law n units p x b c.row c.offset H w.good (z ∙ len_is))));
          }

      module _ (z : c.offset ≡ len → ⊥) where
        less : c.offset < len_span S
        less = omega (arith, H.most, len_is, z)

        pub after_next : (span_code row ≡ 0) × (c.offset + 1 ≤ len_span row)
        after_next = (fine, subst (λ (q : FugueSpan). c.offset + 1 ≤ len_span q) (sym er) (omega (arith, less)))

        pub after_fits : c.offset + 1 ≤ 2147483647
        after_fits = let s : len_span row ≤ 2147483647 = len_small row fine in omega (arith, s, after_next.1)

        pub after_cut : (right : OptId) (y : FugueSpan) → right ≡ left_of row (c.offset + 1) → y ≡ with_origins x left right → Planned (Cut c.row c.offset y) n (insert_units p x (expand (rows n b))) b
        after_cut right y eg ey =
            subst (λ (u : FugueSpan). Planned (Cut c.row c.offset u) n (insert_units p x (expand (rows n b))) b)
            (sym (ey ∙ ap₂ (λ (l o : OptId). with_origins x l o) left_is (eg ∙ ap (λ (q : FugueSpan). left_of q (c.offset + 1)) er)))
            (cut_plan n units p x b c.row c.offset H w.good less w.fine w.new)

-- at the start
pub start_plan : (n p : ℕ) (x : FugueSpan) (b : List ℕ) → p ≡ 0 → (q : Plan) → Planned q n (border_units 0 Nothing x (rows n b)) b → Planned q n (insert_units p x (expand (rows n b))) b
start_plan n p x b e q v =
    record {
      can = v.can;
      list = v.list ∙ ap join (sym (ap (λ (m : ℕ). insert_units m x (expand (rows n b))) e ∙ zero_law x (rows n b)));
    }
