-- Each delta, applied to the old visible list, gives the new one: the law over the public calls, for any outcomes that meet their contracts.
use Prim.Native.Nat.{ℕ, ◌*◌, ◌≤◌}
use mathlib.Core.Path.{◌≡◌, refl, sym, ap, ap₂, ◌∙◌}
use mathlib.Core.Bool.{Bool, true, false, cond}
use mathlib.Core.List.{List, [], ◌∷◌, map}
use native.Mathlib.Omega.{arith}
use lib.Dec.{eqb, leb}
use lib.ListN.{length, take, drop}
use lib.Pow.{are_bytes}
use borrow.Author.Tests.{eqb-true, le-leb}
use Rattle.words.specs.Le.{put}
use Rattle.span.specs.declared.status.Status.{Status}
use Rattle.span.specs.declared.span.FugueSpan.{FugueSpan}
use Rattle.span.specs.Answer.{answer}
use Rattle.span.specs.Units.{expand}
use Rattle.span.proofs.AnswerLaws.{is_done}
use Rattle.units.specs.Lists.{every, over}
use Rattle.units.specs.Codes.{unless, kept}
use Rattle.rope.specs.Spans.{AllOk}
use Rattle.units.specs.Store.{count, spans_of, is_state}
use Rattle.units.specs.declared.diff.Entry.{Entry}
use Rattle.units.specs.Delta.{insertable, entries}
use Rattle.rope.specs.declared.diff.EntryNumbers.{EntryNumbers}
use Rattle.rope.specs.Columns.{column, column_of, least, diff_rows_code, get_diff_code, Diffed}
use Rattle.rope.proofs.States.{state_of, part_spans}
use Rattle.rope.proofs.WellFormed.{formed_of}
use Rattle.apply.specs.declared.item.Item.{Item}
use Rattle.apply.specs.Maybe.{ApplyAnswer}
use Rattle.std.specs.Prelude.{Ok}
use Rattle.span.specs.Refusal.{refused}
use Rattle.apply.specs.Apply.{Known, items, new_unit, applied, apply_code, used}
use Rattle.apply.specs.Items.{items_in, items_bytes}
use Rattle.apply.specs.Given.{givens}
use Rattle.apply.specs.Called.{Called, delta_items, delta_code, shown_items, visible_code}
use Rattle.apply.proofs.DeltaApplies.{delta_applies, new_item, between, standing, old_same, new_same}
use Rattle.apply.proofs.Sound.{AllSound, AllGood, rows_fit, drop_bytes, sound_items, sound_units, good_list, items_formed, items_ids, items_single}
use Rattle.apply.proofs.Back.{items_back, column_cut, givens_back}
use Rattle.apply.proofs.Fine.{AllFine, fine_entries, all_said, all_formed, all_ids, all_known, used-entries}

-- ---------------------------------------------------------------- the calls

-- What a caller has who lends a store to get_diff and to visible_items, both done, and then lends to apply the columns cut to the n entries and the
-- output cut to the m items that they answered. Each lent buffer before its call is a parameter; after it, a field.
pub record Calls (s k0 a0 b0 p0 c0 l0 old0 out0 : List ℕ) : Type 0 where
  pub n : ℕ
  pub k : List ℕ
  pub a : List ℕ
  pub b : List ℕ
  pub p : List ℕ
  pub c : List ℕ
  pub l : List ℕ
  pub diffed : Diffed (get_diff_code (least (length k0) (length a0) (length b0) (length p0) (length c0) (length l0)) s) (spans_of s) (Ok n) k0 a0 b0 p0 c0 l0 k a b p c l
  pub m : ℕ
  pub old : List ℕ
  pub shown : Called (visible_code s old0) (shown_items (spans_of s)) old0 (Ok m) old
  pub said : ApplyAnswer
  pub out : List ℕ
  pub new : Called (delta_code (take n k) (take n a) (take n b) (take n p) (take n c) (take n l) (take (m * 24) old) out0) (delta_items (take n k) (take n a) (take n b) (take n p) (take n c) (take n l) (take (m * 24) old)) out0 said out

-- wherever the two calls are done there is such a caller
pub calls : (s k0 a0 b0 p0 c0 l0 old0 out0 : List ℕ) → get_diff_code (least (length k0) (length a0) (length b0) (length p0) (length c0) (length l0)) s ≡ 0 → visible_code s old0 ≡ 0 → Calls s k0 a0 b0 p0 c0 l0 old0 out0
calls s k0 a0 b0 p0 c0 l0 old0 out0 d w =
    record {
      n = length (entries (spans_of s));
      k = _;
      a = _;
      b = _;
      p = _;
      c = _;
      l = _;
      diffed = record { said = is_done Ok refused _ d refl; kind = refl; first = refl; second = refl; peer = refl; counter = refl; lamport = refl };
      m = length (shown_items (spans_of s));
      old = _;
      shown = record { said = is_done Ok refused _ w refl; left = refl };
      said = _;
      out = _;
      new = record { said = refl; left = refl };
    }

-- the new visible list, and the only refusal that is left: an output that is too short for it
unfoldable pub new_items : List ℕ → List Item
new_items s = items (map new_unit (expand (spans_of s)))

unfoldable pub room_code : List Item → List ℕ → ℕ
room_code new out = unless (leb (length new) (length (items_in out))) 13 0

-- ---------------------------------------------------------------- what answers say

-- a done answer has the code 0, and counts what was counted
done_of : (code x n : ℕ) → Ok n ≡ answer Ok refused code x → (code ≡ 0) × (n ≡ x)
unfolding answer
done_of code x n e = go (eqb code 0) refl e
  where
    go : (t : Bool) → eqb code 0 ≡ t → Ok n ≡ cond t (Ok x) (refused code) → (code ≡ 0) × (n ≡ x)
    go true q w = (eqb-true code 0 q, cc)
    go false q w = absurd (cc)

left_done : (code : ℕ) (new : List Item) (s t : List ℕ) → code ≡ 0 → t ≡ kept code (put 0 (items_bytes new) s) s → t ≡ put 0 (items_bytes new) s
left_done code new s t z e = e ∙ ap (λ (x : ℕ). cond (eqb x 0) (put 0 (items_bytes new) s) s) z

-- get_diff is done on a well formed store of which all that comes in has a real id
diff_of : (room : ℕ) (s : List ℕ) → get_diff_code room s ≡ 0 → (is_state s ≡ true) × (every insertable (spans_of s) ≡ true)
unfolding get_diff_code diff_rows_code
diff_of room s e = go (is_state s) (every insertable (spans_of s)) refl refl e
  where
    go : (t u : Bool) → is_state s ≡ t → every insertable (spans_of s) ≡ u → ◌≡◌ {A = ℕ} (cond t (cond u (cond (leb (length (entries (spans_of s))) room) 0 13) 12) 15) 0 → (is_state s ≡ true) × (every insertable (spans_of s) ≡ true)
    go true true p q z = (p, q)
    go true false p q z = absurd (omega arith)
    go false u p q z = absurd (omega arith)

column_done : (code : ℕ) (f : EntryNumbers → ℕ) (es : List Entry) (c0 c : List ℕ) (n : ℕ) → code ≡ 0 → n ≡ length es → c ≡ column_of code f es c0 → take n c ≡ column f es
column_done code f es c0 c n z q e =
    ap (λ (m : ℕ). take m c) q ∙ column_cut f es c0 c (e ∙ ap (λ (x : ℕ). cond (eqb x 0) (over (column f es) c0) c0) z)

-- ---------------------------------------------------------------- nothing but the room refuses

code_room : (l : List FugueSpan) (out : List ℕ) → AllFine (entries l) → AllSound (items (expand l)) → apply_code (items_in out) (map Known (entries l)) (items (expand l)) ≡ room_code (items (map new_unit (expand l))) out
unfolding apply_code room_code
code_room l out f v =
    rw (
      all_formed (entries l) f,
      items_formed (items (expand l)) v,
      all_ids (entries l) f,
      items_ids (items (expand l)) v,
      all_known (entries l) f,
      items_single (items (expand l)) v,
      le-leb (used (map Known (entries l))) (length (items (expand l))) (used-entries l),
      delta_applies l,
    )

room_done : (new : List Item) (out : List ℕ) → length new ≤ length (items_in out) → room_code new out ≡ 0
unfolding room_code
room_done new out h = ap (λ (t : Bool). cond t 0 13) (le-leb (length new) (length (items_in out)) h)

answer_done : (code : ℕ) (new : List Item) → code ≡ 0 → answer Ok refused code (length new) ≡ Ok (length new)
unfolding answer
answer_done code new z = ap (λ (x : ℕ). cond (eqb x 0) (Ok (length new)) (refused x)) z

-- a unit at the other version is the same item
new_good : (us : List FugueSpan) → AllGood us → AllGood (map new_unit us)
unfolding AllGood
new_good [] v = tt
new_good (u ∷ us) v = (rw (new_item u) v.0, new_good us v.1)

-- ---------------------------------------------------------------- the law (the store's bytes are bytes, as those of every lent &[u8] are)

module _ (s k0 a0 b0 p0 c0 l0 old0 out0 : List ℕ) (v : Calls s k0 a0 b0 p0 c0 l0 old0 out0) (bytes : are_bytes s ≡ true) where
  abbrev spans : List FugueSpan
  spans = spans_of s

  abbrev code : ℕ
  code = get_diff_code (least (length k0) (length a0) (length b0) (length p0) (length c0) (length l0)) s

  diff_said : (code ≡ 0) × (v.n ≡ length (entries spans))
  diff_said = done_of code (length (entries spans)) v.n v.diffed.said

  shown_said : (visible_code s old0 ≡ 0) × (v.m ≡ length (shown_items spans))
  shown_said = done_of (visible_code s old0) (length (shown_items spans)) v.m v.shown.said

  each_ok : AllOk spans
  each_ok = rw (sym (part_spans s)) (formed_of _ (state_of s (diff_of _ s diff_said.0).0).stored.formed).each

  all_sound : AllSound (items (expand spans))
  unfolding spans_of
  all_sound = sound_items spans each_ok (rows_fit (count s) (drop 72 s) (drop_bytes 72 s bytes))

  all_fine : AllFine (entries spans)
  all_fine = fine_entries spans each_ok (diff_of _ s diff_said.0).1

  -- the columns as apply reads them, and the old list
  given_is : givens (take v.n v.k) (take v.n v.a) (take v.n v.b) (take v.n v.p) (take v.n v.c) (take v.n v.l) ≡ map Known (entries spans)
  given_is =
      rw (
        column_done code (λ (x : EntryNumbers). x.kind) (entries spans) k0 v.k v.n diff_said.0 diff_said.1 v.diffed.kind,
        column_done code (λ (x : EntryNumbers). x.a) (entries spans) a0 v.a v.n diff_said.0 diff_said.1 v.diffed.first,
        column_done code (λ (x : EntryNumbers). x.b) (entries spans) b0 v.b v.n diff_said.0 diff_said.1 v.diffed.second,
        column_done code (λ (x : EntryNumbers). x.peer) (entries spans) p0 v.p v.n diff_said.0 diff_said.1 v.diffed.peer,
        column_done code (λ (x : EntryNumbers). x.counter) (entries spans) c0 v.c v.n diff_said.0 diff_said.1 v.diffed.counter,
        column_done code (λ (x : EntryNumbers). x.lamport) (entries spans) l0 v.l v.n diff_said.0 diff_said.1 v.diffed.lamport,
      )
      (givens_back (entries spans) (all_said (entries spans) all_fine))

  old_is : items_in (take (v.m * 24) v.old) ≡ items (expand spans)
  unfolding shown_items
  old_is =
      ap₂ (λ (m : ℕ) (t : List ℕ). items_in (take (m * 24) t)) shown_said.1 (left_done (visible_code s old0) (shown_items spans) old0 v.old shown_said.0 v.shown.left)
      ∙ items_back (items (expand spans)) old0 all_sound

  new_is : delta_items (take v.n v.k) (take v.n v.a) (take v.n v.b) (take v.n v.p) (take v.n v.c) (take v.n v.l) (take (v.m * 24) v.old) ≡ new_items s
  unfolding delta_items new_items
  new_is = ap₂ applied given_is old_is ∙ delta_applies spans

  code_is : delta_code (take v.n v.k) (take v.n v.a) (take v.n v.b) (take v.n v.p) (take v.n v.c) (take v.n v.l) (take (v.m * 24) v.old) out0 ≡ room_code (new_items s) out0
  unfolding delta_code new_items
  code_is = ap₂ (apply_code (items_in out0)) given_is old_is ∙ code_room spans out0 all_fine all_sound

  -- apply writes exactly the new visible list, or answers 13 where the output is too short
  pub delta_through_calls : Called (room_code (new_items s) out0) (new_items s) out0 v.said v.out
  delta_through_calls = rw (code_is, new_is) at v.new

  -- what it wrote, read again as items: the new visible list
  all_new : AllSound (new_items s)
  unfolding new_items spans_of
  all_new = sound_units (map new_unit (expand spans)) (new_good (expand spans) (good_list spans each_ok (rows_fit (count s) (drop 72 s) (drop_bytes 72 s bytes))))

  pub delta_read_back : length (new_items s) ≤ length (items_in out0) → (v.said ≡ Ok (length (new_items s))) × (items_in (take (length (new_items s) * 24) v.out) ≡ new_items s)
  delta_read_back h =
      let z = room_done (new_items s) out0 h in
      let w = delta_through_calls in
      (w.said ∙ answer_done (room_code (new_items s) out0) (new_items s) z, ap (λ (t : List ℕ). items_in (take (length (new_items s) * 24) t)) (left_done (room_code (new_items s) out0) (new_items s) out0 v.out z w.left) ∙ items_back (new_items s) out0 all_new)

  -- the same of two versions: units with a as status and b as diff_status, so that the old list stands at a and the new one at b
  pub delta_between_calls : (a b : FugueSpan → Status) (us : List FugueSpan) → expand (spans_of s) ≡ map (between a b) us
      → (items_in (take (v.m * 24) v.old) ≡ items (map (standing a) us))
      × Called (room_code (items (map (standing b) us)) out0) (items (map (standing b) us)) out0 v.said v.out
  unfolding new_items
  delta_between_calls a b us e =
      let q : new_items s ≡ items (map (standing b) us) = ap (λ (l : List FugueSpan). items (map new_unit l)) e ∙ ap items (new_same a b us) in
      let w = delta_through_calls in
      (old_is ∙ (ap items e ∙ old_same a b us), rw q at w)
