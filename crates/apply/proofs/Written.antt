-- The new list as it is written: what each entry gives, one after the other, and then the old units that are left.
use Prim.Native.Nat.{ℕ, ◌+◌, ◌-◌, ◌*◌, ◌/◌, ◌<◌, ◌≤◌}
use mathlib.Core.Path.{◌≡◌, refl, sym, ap, ◌∙◌}
use mathlib.Core.Bool.{Bool, true, false, ◌&&◌, cond}
use mathlib.Core.List.{List, [], ◌∷◌, ◌++◌, map}
use native.Mathlib.Omega.{arith}
use native.Mathlib.Nat.{zero-add}
use lib.ListN.{length, take, drop, length-append, length-drop}
use lib.Seq.{drop-drop, take_all}
use Rattle.std.specs.Prelude.{Some}
use Rattle.words.specs.Le.{put}
use Rattle.words.proofs.Puts.{put-nil, length-put}
use Rattle.span.specs.declared.chunk.RichtextChunk.{RichtextChunk}
use Rattle.span.specs.declared.ids.Id.{Id}
use Rattle.span.specs.Chunk.{len_of, formed}
use Rattle.span.specs.Ids.{room_of, room_opt}
use Rattle.span.specs.declared.span.FugueSpan.{FugueSpan}
use Rattle.span.specs.Span.{len_span, span_code, real_of}
use Rattle.span.specs.Units.{tab, unit_at, units_of}
use Rattle.span.proofs.AnswerLaws.{lower_zero}
use Rattle.span.proofs.IdsLaws.{roomy, room_opt_lem}
use Rattle.span.proofs.ListLaws.{tab_from}
use Rattle.span.proofs.UnitLaws.{span_of_lem}
use Rattle.units.specs.Maybe.{OptLamport}
use Rattle.units.specs.declared.diff.Entry.TheVariants.{Insert}
use Rattle.apply.specs.declared.item.Item.{Item}
use Rattle.apply.specs.Apply.{Given, Known, item_of, item_at, items_of, lamport_fits, applied, used}
use Rattle.apply.specs.Items.{items_in, items_bytes}
use Rattle.apply.specs.Given.{takes, gives, made, bare_span, given_code, insert_code, lowest}
use Rattle.apply.specs.Called.{Allowed}
use Rattle.apply.proofs.DeltaApplies.{unit_item}
use Rattle.apply.proofs.Tabs.{tab_turn, tab_none, tab_all, Writing, write_start, write_many, items_units, length_items}
use Rattle.apply.proofs.Lows.{code_insert}
use Rattle.apply.proofs.Fits.{used-cons, applied-cons, length-made}
use Rattle.apply.proofs.Coded.{length_in}

-- ---- an Insert's units

-- an Insert that nothing refuses
pub record InsertOk (c : RichtextChunk) (i : Id) : Type 0 where
  pub formed : formed c ≡ true
  pub room : room_of i (len_of c) ≡ true

pub insert_ok : (c : RichtextChunk) (i : Id) (l : OptLamport) → insert_code c i l ≡ 0 → InsertOk c i
unfolding insert_code
insert_ok c i l q = go (formed c) (room_opt (Some i) (len_of c)) (lamport_fits l (len_of c)) refl refl refl q
  where
    go : (f r s : Bool) → formed c ≡ f → room_opt (Some i) (len_of c) ≡ r → lamport_fits l (len_of c) ≡ s → ◌≡◌ {A = ℕ} (cond f (cond (r && s) 0 2) 1) 0 → InsertOk c i
    go false r s d e g z = absurd (omega arith)
    go true false s d e g z = absurd (omega arith)
    go true true false d e g z = absurd (omega arith)
    go true true true d e g z = record { formed = d; room = room_opt_lem i (len_of c) e }

-- the units of a span, as items
pub units_are : (s : FugueSpan) → map item_of (units_of s) ≡ items_of s.content (real_of s)
unfolding units_of items_of
units_are s =
    items_units s 0 (len_span s)
    ∙ tab_from (λ (k : ℕ). item_of (unit_at s k)) (item_at s.content (real_of s)) 0 0 (len_span s) (λ (k : ℕ). unit_item s (0 + k))

module _ (c : RichtextChunk) (i : Id) where
  pub bare_ok : InsertOk c i → span_code (bare_span i c) ≡ 0
  unfolding room_opt
  bare_ok v = span_of_lem (bare_span i c) (len_of c) refl v.formed v.room (omega (arith, (roomy i.counter (len_of c) v.room).ends)) refl

  pub bare_items : map item_of (units_of (bare_span i c)) ≡ items_of c i
  unfolding real_of
  bare_items = units_are (bare_span i c)

  pub bare_fine : (l : OptLamport) → given_code (Known (Insert c i l)) ≡ 0 → span_code (bare_span i c) ≡ 0
  bare_fine l q = bare_ok (insert_ok c i l (code_insert c i l ∙ q))

-- ---- one entry

pub put_none : (k : ℕ) (s : List ℕ) → s ≡ put (k * 24) (items_bytes []) s
unfolding items_bytes
put_none k s = sym (put-nil s (k * 24))

-- ---- the loop: i entries are done, which used `at` old units and gave k new ones

pub record Going (f : ℕ → Given) (n : ℕ) (old : List Item) (i at k : ℕ) (s0 s : List ℕ) : Type 0 where
  pub each : lowest given_code (tab f i (n - i)) ≡ 0
  pub fits : at + used (tab f i (n - i)) ≤ length old
  pub count : k + length (applied (tab f i (n - i)) (drop at old)) ≡ length (applied (tab f 0 n) old)
  pub is : Writing (applied (tab f 0 n) old) (applied (tab f i (n - i)) (drop at old)) 0 k s0 s

module _ (f : ℕ → Given) (n : ℕ) (old : List Item) where
  pub going_start : (s : List ℕ) → Allowed (tab f 0 n) old (length s) → Going f n old 0 0 0 s s
  going_start s v =
      let e = tab_all f n in
      record {
        each = ap (lowest given_code) (sym e) ∙ v.each;
        fits = rw (sym e) (omega (arith, v.fits));
        count = rw (sym e) (zero-add (length (applied (tab f 0 n) old)));
        is = rw (sym e) (write_start (applied (tab f 0 n) old) 0 s (omega (arith, v.holds)));
      }

  module _ (i at k : ℕ) (s0 s : List ℕ) (v : Going f n old i at k s0 s) where
    module _ (h : i < n) where
      on : tab f i (n - i) ≡ f i ∷ tab f (i + 1) (n - (i + 1))
      on = tab_turn f n i h

      used_on : used (tab f i (n - i)) ≡ takes (f i) + used (tab f (i + 1) (n - (i + 1)))
      used_on = ap used on ∙ used-cons (f i) (tab f (i + 1) (n - (i + 1)))

      lows_on : (given_code (f i) ≡ 0) × (lowest given_code (tab f (i + 1) (n - (i + 1))) ≡ 0)
      unfolding lowest
      lows_on = lower_zero (given_code (f i)) (lowest given_code (tab f (i + 1) (n - (i + 1)))) (sym (ap (lowest given_code) on) ∙ v.each)

      rest_on : applied (tab f i (n - i)) (drop at old) ≡ made (f i) (drop at old) ++ applied (tab f (i + 1) (n - (i + 1))) (drop (at + takes (f i)) old)
      rest_on =
          ap (λ (l : List Given). applied l (drop at old)) on
          ∙ (applied-cons (f i) (tab f (i + 1) (n - (i + 1))) (drop at old)
          ∙ ap (λ (l : List Item). made (f i) (drop at old) ++ applied (tab f (i + 1) (n - (i + 1))) l) (drop-drop (takes (f i)) at old))

      made_long : length (made (f i) (drop at old)) ≡ gives (f i)
      made_long = length-made (f i) (drop at old) (omega (arith, used_on, v.fits, length-drop at old))

      rest_long : length (applied (tab f i (n - i)) (drop at old)) ≡ gives (f i) + length (applied (tab f (i + 1) (n - (i + 1))) (drop (at + takes (f i)) old))
      rest_long = ap length rest_on ∙ (length-append (made (f i) (drop at old)) (applied (tab f (i + 1) (n - (i + 1))) (drop (at + takes (f i)) old)) ∙ ap (λ (m : ℕ). m + length (applied (tab f (i + 1) (n - (i + 1))) (drop (at + takes (f i)) old))) made_long)

      pub going_code : (g : Given) → g ≡ f i → given_code g ≡ 0
      going_code g e = ap given_code e ∙ lows_on.0

      pub going_uses : (g : Given) → g ≡ f i → at + takes g ≤ length old
      going_uses g e = omega (arith, used_on, v.fits, ap takes e)

      pub going_room : (g : Given) → g ≡ f i → (k + gives g) * 24 ≤ length s
      going_room g e = omega (arith, rest_long, v.is.room, v.is.long, ap gives e)

      pub going_next : (g : Given) → g ≡ f i → (t m : ℕ) → t ≡ takes g → m ≡ gives g → (s2 : List ℕ) → s2 ≡ put (k * 24) (items_bytes (made g (drop at old))) s → Going f n old (i + 1) (at + t) (k + m) s0 s2
      going_next g e t m p q s2 w0 =
          let w : s2 ≡ put (k * 24) (items_bytes (made (f i) (drop at old))) s = w0 ∙ ap (λ (x : Given). put (k * 24) (items_bytes (made x (drop at old))) s) e in
          let b : length (items_bytes (made (f i) (drop at old))) ≡ length (made (f i) (drop at old)) * 24 = length_items (made (f i) (drop at old)) in
          let y : (k + gives (f i)) * 24 ≤ length s = going_room (f i) refl in
          let z : length s2 ≡ length s = ap length w ∙ length-put s (items_bytes (made (f i) (drop at old))) (k * 24) (omega arith) (omega (arith, b, made_long)) in
          let d : t ≡ takes (f i) = p ∙ ap takes e in
          let o : m ≡ gives (f i) = q ∙ ap gives e in
          rw (d, o)
          record {
            each = lows_on.1;
            fits = omega (arith, used_on, v.fits);
            count = (let j : k + gives (f i) + length (applied (tab f (i + 1) (n - (i + 1))) (drop (at + takes (f i)) old)) ≡ k + length (applied (tab f i (n - i)) (drop at old)) = omega (arith, rest_long) in j) ∙ v.count;
            is = write_many (applied (tab f 0 n) old) (applied (tab f i (n - i)) (drop at old)) 0 k s0 s v.is (made (f i) (drop at old)) (applied (tab f (i + 1) (n - (i + 1))) (drop (at + takes (f i)) old)) rest_on s2 z w (k + gives (f i)) (ap (λ (x : ℕ). k + x) (sym made_long));
          }

    -- the old units that are left go last
    module _ (h : n ≤ i) where
      none : applied (tab f i (n - i)) (drop at old) ≡ drop at old
      unfolding applied
      none = ap (λ (l : List Given). applied l (drop at old)) (tab_none f n i h)

      none_long : length (applied (tab f i (n - i)) (drop at old)) ≡ length old - at
      none_long = ap length none ∙ length-drop at old

      pub last_low : at ≤ length old
      last_low = omega (arith, v.fits)

      pub last_room : (k + (length old - at)) * 24 ≤ length s
      last_room = omega (arith, none_long, v.is.room, v.is.long)

      pub last_count : k + (length old - at) ≡ length (applied (tab f 0 n) old)
      last_count = ap (λ (m : ℕ). k + m) (sym none_long) ∙ v.count

      pub last_is : (s2 : List ℕ) → s2 ≡ put (k * 24) (items_bytes (take (length old - at) (drop at old))) s → s2 ≡ put 0 (items_bytes (applied (tab f 0 n) old)) s0
      last_is s2 w =
          w
          ∙ (ap (λ (l : List Item). put (k * 24) (items_bytes l) s) (take_all (length old - at) (drop at old) (omega (arith, length-drop at old)) ∙ sym none)
          ∙ v.is.is)

-- the same of old units in rows
module _ (f : ℕ → Given) (n : ℕ) (o : List ℕ) (i at k : ℕ) (s0 s : List ℕ) (v : Going f n (items_in o) i at k s0 s) where
  pub rows_used : i < n → (g : Given) → g ≡ f i → (at + takes g) * 24 ≤ length o
  rows_used h g e = omega (arith, going_uses f n (items_in o) i at k s0 s v h g e, length_in o)

  module _ (h : n ≤ i) where
    pub rest_low : at ≤ length o / 24
    rest_low = omega (arith, last_low f n (items_in o) i at k s0 s v h, length_in o)

    pub rest_rows : (at + (length o / 24 - at)) * 24 ≤ length o
    rest_rows = omega (arith, rest_low)

    pub rest_room : (k + (length o / 24 - at)) * 24 ≤ length s
    rest_room = rw (sym (length_in o)) (last_room f n (items_in o) i at k s0 s v h)

    pub rest_count : k + (length o / 24 - at) ≡ length (applied (tab f 0 n) (items_in o))
    rest_count = ap (λ (m : ℕ). k + (m - at)) (sym (length_in o)) ∙ last_count f n (items_in o) i at k s0 s v h

    pub rest_is : (s2 : List ℕ) → s2 ≡ put (k * 24) (items_bytes (take (length o / 24 - at) (drop at (items_in o)))) s → s2 ≡ put 0 (items_bytes (applied (tab f 0 n) (items_in o))) s0
    rest_is s2 w = last_is f n (items_in o) i at k s0 s v h s2 (w ∙ ap (λ (m : ℕ). put (k * 24) (items_bytes (take (m - at) (drop at (items_in o)))) s) (sym (length_in o)))

-- what an entry gives, written
pub ruleset written = (bare_fine, bare_items, put_none)

-- the steps of the loop, where a call asks for them
pub ruleset going_steps = (going_start, going_code, going_room, rows_used, rest_low, rest_rows, rest_room, rest_count)
