-- target ranges in bytes: one written after others, one added to them, and the loop over the rows of a list
use Prim.Native.Nat.{ℕ, zero, suc, ◌+◌, ◌-◌, ◌*◌, ◌^◌, ◌<◌, ◌≤◌}
use mathlib.Core.Path.{◌≡◌, refl, sym, ap, ap₂, subst, ◌∙◌}
use mathlib.Core.Bool.{Bool, true, false, cond, false≢true}
use mathlib.Core.List.{List, [], ◌∷◌, ◌++◌, append_assoc}
use native.Mathlib.Omega.{arith}
use native.Mathlib.Nat.{zero-add}
use borrow.Author.Tests.{leb-true}
use lib.Dec.{leb}
use lib.IntN.{ℤ, pos, negsuc, ◌+ℤ◌}
use lib.ListN.{length, take, drop, length-append}
use lib.Seq.{drop-drop, drop_at, length-take-le}
use mir.Syntax.{w32}
use mir.Val.{SFits}
use mir.Facts.{to_z-of_z}
use mir.ValLaws.{of_z_fits}
use Rattle.words.specs.Le.{le, bytes_of, put}
use Rattle.words.proofs.Puts.{le_bytes, drop-put, part_before}
use Rattle.span.specs.declared.ids.Id.{Id}
use Rattle.span.specs.declared.span.FugueSpan.{FugueSpan}
use Rattle.span.specs.Ids.{room, room_of, inc_id, same_id}
use Rattle.span.specs.Span.{len_span, span_code}
use Rattle.span.proofs.IdsLaws.{roomy, room_less}
use Rattle.span.proofs.Same.{same_id-true}
use Rattle.span.proofs.SpanLaws.{span_ok}
use Rattle.span.proofs.UnitLaws.{room_join}
use Rattle.span.specs.Units.{tab, expand}
use Rattle.span.proofs.ListLaws.{tab-add}
use Rattle.store.specs.Row.{bits32, id_of, rows, row_at}
use Rattle.rope.specs.declared.change.Delete.{Delete}
use Rattle.rope.specs.declared.change.Part.{Part}
use Rattle.rope.specs.Spans.{AllOk}
use Rattle.rope.specs.Pieces.{delete_cut, delete_after, CanDelete}
use Rattle.rope.proofs.Rights.{row_drop, row_none, row_ok}
use Rattle.rope.proofs.Cuts.{delete_most, can_after}
use Rattle.history.specs.Edit.{Range}
use Rattle.history.specs.Checkout.{range}
use Rattle.tracker.specs.declared.row.Target.{Target}
use Rattle.tracker.specs.Rows.{to_range, range_in, ranges, range_bytes}
use Rattle.tracker.specs.Targets.{targets_of, add_range, add_all, part_range, took_ranges, AllRoom, Adds, Added, Wrote}
use Rattle.tracker.proofs.Ranged.{part_some, part_none, add_append, took_law}
use Rattle.tracker.proofs.Logs.{length-ranges}

-- ---- ranges by their place

at_tab : (k j b : ℕ) (t : List ℕ) → ranges k (drop (b + j * 16) t) ≡ tab (λ (i : ℕ). range_in (drop (b + i * 16) t)) j k
unfolding ranges tab
at_tab zero j b t = refl
at_tab (suc k) j b t =
    ap (λ (l : List Range). range_in (drop (b + j * 16) t) ∷ l)
    (ap (ranges k) (drop-drop 16 (b + j * 16) t ∙ ap (λ (m : ℕ). drop m t) (let q : b + j * 16 + 16 ≡ b + suc j * 16 = omega arith in q)) ∙ at_tab k (suc j) b t)

ranges-tab : (k b : ℕ) (t : List ℕ) → ranges k (drop b t) ≡ tab (λ (i : ℕ). range_in (drop (b + i * 16) t)) 0 k
ranges-tab k b t = ap (λ (m : ℕ). ranges k (drop m t)) (let q : b ≡ b + 0 * 16 = omega arith in q) ∙ at_tab k 0 b t

one_more : (k b : ℕ) (t : List ℕ) → ranges (k + 1) (drop b t) ≡ ranges k (drop b t) ++ range_in (drop (b + k * 16) t) ∷ []
unfolding tab
one_more k b t =
    ranges-tab (k + 1) b t ∙
    (tab-add (λ (i : ℕ). range_in (drop (b + i * 16) t)) 0 k 1 ∙
    ap₂ (λ (l : List Range) (m : ℕ). l ++ range_in (drop (b + m * 16) t) ∷ []) (sym (ranges-tab k b t)) (zero-add k))

tab_same : (f g : ℕ → Range) (j n : ℕ) → ((i : ℕ) → i < j + n → f i ≡ g i) → tab f j n ≡ tab g j n
unfolding tab
tab_same f g j zero h = refl
tab_same f g j (suc n) h =
    ap₂ (λ (x : Range) (l : List Range). x ∷ l) (h j (omega arith)) (tab_same f g (suc j) n (λ i k. h i (omega arith)))

-- a range whose bytes are those of one elsewhere
same_range : (s t : List ℕ) (b c : ℕ) → ((o m : ℕ) → o + m ≤ 16 → take m (drop (c + o) t) ≡ take m (drop (b + o) s)) → range_in (drop c t) ≡ range_in (drop b s)
unfolding range_in
same_range s t b c same = λ i. range (id_of (le (part 0 8 (omega arith) i)) (le (part 8 4 (omega arith) i))) (le (part 12 4 (omega arith) i))
  where
    part : (o m : ℕ) → o + m ≤ 16 → take m (drop o (drop c t)) ≡ take m (drop o (drop b s))
    part o m h = ap (take m) (drop-drop o c t) ∙ (same o m h ∙ ap (take m) (sym (drop-drop o b s)))

-- ---- a range that is written

counter_fits : (z : ℤ) (n : ℕ) → room z n ≡ true → SFits w32 z
unfolding room
counter_fits (pos k) n e = record { sfits = omega (arith, leb-true (k + n) 2147483647 e) }
counter_fits (negsuc k) n e = absurd (false≢true e)

back : (x : Target) (r : List ℕ) → x.id.peer < 2 ^ 64 → SFits w32 x.id.counter → x.len < 2 ^ 32 → range_in (range_bytes x ++ r) ≡ to_range x
unfolding range_in range_bytes bytes_of
back x r p f n =
    let q : bits32 x.id.counter < 2 ^ 32 = omega (arith, of_z_fits w32 x.id.counter f) in
    rw (le_bytes 8 x.id.peer p, le_bytes 4 (bits32 x.id.counter) q, le_bytes 4 x.len n, to_z-of_z f)

long : (x : Target) → length (range_bytes x) ≡ 16
unfolding range_bytes bytes_of
long x = refl

drop_in : (s bs : List ℕ) (b : ℕ) → b ≤ length s → drop b (put b bs s) ≡ bs ++ drop (b + length bs) s
unfolding put
drop_in s bs b h = rw (append_assoc (take b s) bs) (drop_at (take b s) (bs ++ drop (b + length bs) s) b (length-take-le b s h))

module _ (at j : ℕ) (x : Target) (t T : List ℕ) (e : T ≡ put ((at + j) * 16) (range_bytes x) t) (fits : (at + j) * 16 + 16 ≤ length t) where
  low : (at + j) * 16 ≤ length t
  low = omega arith

  put_before : take (at * 16) T ≡ take (at * 16) t
  put_before = ap (take (at * 16)) e ∙ part_before t (range_bytes x) ((at + j) * 16) 0 (at * 16) low (omega arith)

  put_past : drop ((at + (j + 1)) * 16) T ≡ drop ((at + (j + 1)) * 16) t
  put_past =
      let q : (at + (j + 1)) * 16 ≡ (at + j) * 16 + length (range_bytes x) = omega (arith, long x) in
      ap₂ drop q e ∙ (drop-put t (range_bytes x) ((at + j) * 16) low ∙ ap (λ (m : ℕ). drop m t) (sym q))

  earlier : ranges j (drop (at * 16) T) ≡ ranges j (drop (at * 16) t)
  earlier =
      ranges-tab j (at * 16) T ∙
      (tab_same (λ (i : ℕ). range_in (drop (at * 16 + i * 16) T)) (λ (i : ℕ). range_in (drop (at * 16 + i * 16) t)) 0 j each ∙ sym (ranges-tab j (at * 16) t))
    where
      each : (i : ℕ) → i < 0 + j → range_in (drop (at * 16 + i * 16) T) ≡ range_in (drop (at * 16 + i * 16) t)
      each i h =
          same_range t T (at * 16 + i * 16) (at * 16 + i * 16)
          (λ o m l. ap (λ (z : List ℕ). take m (drop (at * 16 + i * 16 + o) z)) e ∙ part_before t (range_bytes x) ((at + j) * 16) (at * 16 + i * 16 + o) m low (omega arith))

  module _ (peer : x.id.peer < 2 ^ 64) (ok : room_of x.id x.len ≡ true) where
    there : range_in (drop (at * 16 + j * 16) T) ≡ to_range x
    there =
        let q : at * 16 + j * 16 ≡ (at + j) * 16 = omega arith in
        let r = roomy x.id.counter x.len ok in
        ap range_in (ap₂ drop q e ∙ drop_in t (range_bytes x) ((at + j) * 16) low) ∙
        back x (drop ((at + j) * 16 + length (range_bytes x)) t) peer (counter_fits x.id.counter x.len ok) (omega (arith, r.ends))

    put_list : ranges (j + 1) (drop (at * 16) T) ≡ ranges j (drop (at * 16) t) ++ to_range x ∷ []
    put_list = one_more j (at * 16) T ∙ ap₂ (λ (l : List Range) (r : Range). l ++ r ∷ []) earlier there

-- ---- a range added on the right

add_joins : (A : List Range) (q r : Range) → same_id (inc_id q.id q.len) r.id ≡ true → add_range (A ++ q ∷ []) r ≡ A ++ range q.id (q.len + r.len) ∷ []
unfolding add_range
add_joins [] q r e = ap (λ (b : Bool). cond b (range q.id (q.len + r.len) ∷ []) (q ∷ (r ∷ []))) e
add_joins (a ∷ []) q r e = ap (λ (l : List Range). a ∷ l) (add_joins [] q r e)
add_joins (a ∷ (b ∷ A)) q r e = ap (λ (l : List Range). a ∷ l) (add_joins (b ∷ A) q r e)

add_own : (A : List Range) (q r : Range) → same_id (inc_id q.id q.len) r.id ≡ false → add_range (A ++ q ∷ []) r ≡ (A ++ q ∷ []) ++ r ∷ []
unfolding add_range
add_own [] q r e = ap (λ (b : Bool). cond b (range q.id (q.len + r.len) ∷ []) (q ∷ (r ∷ []))) e
add_own (a ∷ []) q r e = ap (λ (l : List Range). a ∷ l) (add_own [] q r e)
add_own (a ∷ (b ∷ A)) q r e = ap (λ (l : List Range). a ∷ l) (add_own (b ∷ A) q r e)

last_room : (A : List Range) (q : Range) → AllRoom (A ++ q ∷ []) → room_of q.id q.len ≡ true
unfolding AllRoom
last_room [] q h = h.0
last_room (a ∷ A) q h = last_room A q h.1

both_room : (q r : Range) → same_id (inc_id q.id q.len) r.id ≡ true → room_of q.id q.len ≡ true → room_of r.id r.len ≡ true → room_of q.id (q.len + r.len) ≡ true
unfolding inc_id
both_room q r e h k =
    room_join q.id.counter q.len r.len h (ap (λ (i : Id). room i.counter r.len) (same_id-true (inc_id q.id q.len) r.id e) ∙ k)

add_room : (qs : List Range) (r : Range) → AllRoom qs → room_of r.id r.len ≡ true → AllRoom (add_range qs r)
unfolding AllRoom add_range
add_room [] r h k = (k, tt)
add_room (q ∷ []) r h k = go (same_id (inc_id q.id q.len) r.id) refl
  where
    go : (b : Bool) → same_id (inc_id q.id q.len) r.id ≡ b → AllRoom (cond b (range q.id (q.len + r.len) ∷ []) (q ∷ (r ∷ [])))
    go true e = (both_room q r e h.0 k, tt)
    go false e = (h.0, (k, tt))
add_room (q ∷ (p ∷ qs)) r h k = (h.0, add_room (p ∷ qs) r h.1 k)

all_room : (qs rs : List Range) → AllRoom qs → AllRoom rs → AllRoom (add_all qs rs)
unfolding add_all AllRoom
all_room qs [] h k = h
all_room qs (r ∷ rs) h k = all_room (add_range qs r) rs (add_room qs r h k.0) k.1

add_length : (qs : List Range) (r : Range) → length qs ≤ length (add_range qs r)
unfolding add_range
add_length [] r = omega arith
add_length (q ∷ []) r = go (same_id (inc_id q.id q.len) r.id)
  where
    go : (b : Bool) → 1 ≤ length (cond b (range q.id (q.len + r.len) ∷ []) (q ∷ (r ∷ [])))
    go true = omega arith
    go false = omega arith
add_length (q ∷ (p ∷ qs)) r = let h = add_length (p ∷ qs) r in omega (arith, h)

all_length : (qs rs : List Range) → length qs ≤ length (add_all qs rs)
unfolding add_all
all_length qs [] = omega arith
all_length qs (r ∷ rs) = omega (arith, add_length qs r, all_length (add_range qs r) rs)

-- ---- what `add_target` leaves, in its three ways

module _ (at k : ℕ) (x : Target) (t : List ℕ) (p : Adds at k (to_range x ∷ []) t) where
  abbrev Q : List Range
  Q = ranges k (drop (at * 16) t)

  x_room : room_of x.id x.len ≡ true
  unfolding AllRoom
  x_room = p.new.0

  one_fits : (at + length (add_range Q (to_range x))) * 16 ≤ length t
  unfolding add_all
  one_fits = p.room

  -- a range of its own has room
  own_fits : add_range Q (to_range x) ≡ Q ++ to_range x ∷ [] → (at + k) * 16 + 16 ≤ length t
  own_fits e =
      let n : length (add_range Q (to_range x)) ≡ k + 1 = ap length e ∙ (length-append Q (to_range x ∷ []) ∙ ap (λ (m : ℕ). m + 1) (length-ranges k (drop (at * 16) t))) in
      omega (arith, n, one_fits)

  own_added : add_range Q (to_range x) ≡ Q ++ to_range x ∷ [] → x.id.peer < 2 ^ 64 → (T : List ℕ) → T ≡ put ((at + k) * 16) (range_bytes x) t → Added at k (to_range x ∷ []) (k + 1) t T
  unfolding add_all
  own_added e peer T w =
      record {
        list = put_list at k x t T w (own_fits e) peer x_room ∙ sym e;
        before = put_before at k x t T w (own_fits e);
        past = put_past at k x t T w (own_fits e);
      }

  none : k ≡ 0 → add_range Q (to_range x) ≡ Q ++ to_range x ∷ []
  none e = ap (λ (m : ℕ). add_range (ranges m (drop (at * 16) t)) (to_range x)) e ∙ (empty ∙ ap (λ (m : ℕ). ranges m (drop (at * 16) t) ++ to_range x ∷ []) (sym e))
    where
      empty : add_range (ranges 0 (drop (at * 16) t)) (to_range x) ≡ ranges 0 (drop (at * 16) t) ++ to_range x ∷ []
      empty = unfold ranges add_range in refl

  pub first_room : k ≡ 0 → (at + k) * 16 + 16 ≤ length t
  first_room e = own_fits (none e)

  pub added_first : k ≡ 0 → x.id.peer < 2 ^ 64 → (T : List ℕ) → T ≡ put ((at + k) * 16) (range_bytes x) t → Added at k (to_range x ∷ []) (k + 1) t T
  added_first e = own_added (none e)

  module _ (some : 0 < k) (l : Target) (f : to_range l ≡ range_in (drop ((at + k - 1) * 16) t)) where
    abbrev A : List Range
    A = ranges (k - 1) (drop (at * 16) t)

    ends : Q ≡ A ++ to_range l ∷ []
    ends =
        ap (λ (m : ℕ). ranges m (drop (at * 16) t)) (let q : k ≡ k - 1 + 1 = omega arith in q) ∙
        (one_more (k - 1) (at * 16) t ∙
        ap (λ (r : Range). A ++ r ∷ []) (ap (λ (m : ℕ). range_in (drop m t)) (let q : at * 16 + (k - 1) * 16 ≡ (at + k - 1) * 16 = omega arith in q) ∙ sym f))

    pub last_roomy : room_of l.id l.len ≡ true
    last_roomy = last_room A (to_range l) (subst AllRoom ends p.old)

    module _ (h : same_id (inc_id l.id l.len) x.id ≡ true) where
      sum_room : room_of l.id (l.len + x.len) ≡ true
      sum_room = both_room (to_range l) (to_range x) h last_roomy x_room

      pub sum_fits : l.len + x.len ≤ 2147483647
      sum_fits = let r = roomy l.id.counter (l.len + x.len) sum_room in omega (arith, r.ends)

      pub added_joined : l.id.peer < 2 ^ 64 → (T : List ℕ) → T ≡ put ((at + k - 1) * 16) (range_bytes (record { id = l.id; len = l.len + x.len })) t → Added at k (to_range x ∷ []) k t T
      unfolding add_all
      added_joined peer T w =
          let y : Target = record { id = l.id; len = l.len + x.len } in
          let j = k - 1 in
          let q : at + k - 1 ≡ at + j = omega arith in
          let n : j + 1 ≡ k = omega arith in
          let v : T ≡ put ((at + j) * 16) (range_bytes y) t = w ∙ ap (λ (m : ℕ). put (m * 16) (range_bytes y) t) q in
          let fits : (at + j) * 16 + 16 ≤ length t = omega (arith, p.long) in
          record {
            list = ap (λ (m : ℕ). ranges m (drop (at * 16) T)) (sym n) ∙
                (put_list at j y t T v fits peer sum_room ∙ sym (ap (λ (l : List Range). add_range l (to_range x)) ends ∙ add_joins A (to_range l) (to_range x) h));
            before = put_before at j y t T v fits;
            past = subst (λ (m : ℕ). drop ((at + m) * 16) T ≡ drop ((at + m) * 16) t) n (put_past at j y t T v fits);
          }

    module _ (h : same_id (inc_id l.id l.len) x.id ≡ false) where
      own : add_range Q (to_range x) ≡ Q ++ to_range x ∷ []
      own = ap (λ (l : List Range). add_range l (to_range x)) ends ∙ (add_own A (to_range l) (to_range x) h ∙ ap (λ (l : List Range). l ++ to_range x ∷ []) (sym ends))

      pub own_room : (at + k) * 16 + 16 ≤ length t
      own_room = own_fits own

      pub added_own : x.id.peer < 2 ^ 64 → (T : List ℕ) → T ≡ put ((at + k) * 16) (range_bytes x) t → Added at k (to_range x ∷ []) (k + 1) t T
      added_own = own_added own

-- ---- a part of a row

pub part_first : (s : FugueSpan) (i j : ℕ) → span_code s ≡ 0 → i < j → j ≤ len_span s → room_of s.id i ≡ true
part_first s i j ok h k = room_less s.id.counter i (len_span s) (omega arith) (span_ok s ok).own

pub part_is : (s : FugueSpan) (i j : ℕ) (f : Id) → i < j → f ≡ inc_id s.id i → part_range s i j ≡ range f (j - i) ∷ []
part_is s i j f h e = part_some s i j h ∙ ap (λ (x : Id). range x (j - i) ∷ []) (sym e)

pub nothing_added : (at k : ℕ) (s : FugueSpan) (i j : ℕ) (t : List ℕ) → j ≤ i → Added at k (part_range s i j) k t t
nothing_added at k s i j t h = subst (λ (rs : List Range). Added at k rs k t t) (sym (part_none s i j h)) (record { list = none; before = refl; past = refl })
  where
    none : ranges k (drop (at * 16) t) ≡ add_all (ranges k (drop (at * 16) t)) []
    none = unfold add_all in refl

-- ---- the loop

room_later : (z : ℤ) (a b : ℕ) → room z (a + b) ≡ true → room (z +ℤ pos a) b ≡ true
unfolding room
room_later (pos c) a b e = ap (λ (n : ℕ). leb n 2147483647) (let q : c + a + b ≡ c + (a + b) = omega arith in q) ∙ e
room_later (negsuc c) a b e = absurd (false≢true e)

part_room : (s : FugueSpan) (i j : ℕ) → span_code s ≡ 0 → j ≤ len_span s → AllRoom (part_range s i j)
unfolding AllRoom
part_room s i j ok k = go (j - i) refl
  where
    go : (n : ℕ) → j - i ≡ n → AllRoom (part_range s i j)
    go zero e = subst AllRoom (sym (part_none s i j (omega arith))) tt
    go (suc n) e = subst AllRoom (sym (part_some s i j (omega arith))) (rest, tt)
      where
        rest : room_of (inc_id s.id i) (j - i) ≡ true
        rest = unfold inc_id in room_later s.id.counter i (j - i) (room_less s.id.counter (i + (j - i)) (len_span s) (omega arith) (span_ok s ok).own)

pub record Taking (d : Delete) (n at : ℕ) (s o : List ℕ) (left : Delete) (i k : ℕ) (t : List ℕ) : Type 0 where
  pub low : i ≤ n
  pub can : CanDelete left
  pub same : length t ≡ length o
  pub old : AllRoom (ranges k (drop (at * 16) t))
  pub list : add_all (ranges k (drop (at * 16) t)) (took_ranges left (drop i (rows n s))) ≡ targets_of d (expand (rows n s))
  pub before : take (at * 16) t ≡ take (at * 16) o
  pub past : drop ((at + k) * 16) t ≡ drop ((at + k) * 16) o

module _ (d : Delete) (n at : ℕ) (s o : List ℕ) where
  pub taking_start : CanDelete d → Taking d n at s o d 0 0 o
  unfolding AllRoom ranges
  taking_start c =
      record { low = omega arith; can = c; same = refl; old = tt; list = sym (took_law d (rows n s)); before = refl; past = refl }

  module _ (left : Delete) (i k : ℕ) (t : List ℕ) (v : Taking d n at s o left i k t) where
    module _ (h : i < n) (ok : AllOk (rows n s)) (room : (at + length (targets_of d (expand (rows n s)))) * 16 ≤ length o) where
      abbrev x : FugueSpan
      x = row_at s (i * 72)

      abbrev D : List FugueSpan
      D = drop (i + 1) (rows n s)

      fine : span_code x ≡ 0
      fine = row_ok n s i h ok

      abbrev P : List Range
      P = part_range x (delete_cut left x).from (delete_cut left x).to

      abbrev K : List Range
      K = ranges k (drop (at * 16) t)

      next : add_all (add_all K P) (took_ranges (delete_after left x) D) ≡ targets_of d (expand (rows n s))
      unfolding took_ranges
      next = sym (add_append K P (took_ranges (delete_after left x) D)) ∙ (ap (λ (l : List FugueSpan). add_all K (took_ranges left l)) (sym (row_drop n s i h)) ∙ v.list)

      pub taking_asks : (row : FugueSpan) (p : Part) → row ≡ x → p ≡ delete_cut left x → Adds at k (part_range row p.from p.to) t × (span_code row ≡ 0) × (p.to ≤ len_span row)
      taking_asks row p er ep =
          let a : length K ≡ k = length-ranges k (drop (at * 16) t) in
          let b : length (add_all (add_all K P) (took_ranges (delete_after left x) D)) ≡ length (targets_of d (expand (rows n s))) = ap length next in
          let w : Adds at k P t × (span_code x ≡ 0) × ((delete_cut left x).to ≤ len_span x) = (
            record {
              long = omega (arith, a, b, all_length K P, all_length (add_all K P) (took_ranges (delete_after left x) D), room, v.same);
              room = omega (arith, b, all_length (add_all K P) (took_ranges (delete_after left x) D), room, v.same);
              old = v.old;
              new = part_room x (delete_cut left x).from (delete_cut left x).to fine (delete_most left x);
            },
            fine,
            delete_most left x,
          ) in
          subst (λ (r : FugueSpan). Adds at k (part_range r p.from p.to) t × (span_code r ≡ 0) × (p.to ≤ len_span r)) (sym er)
          (subst (λ (q : Part). Adds at k (part_range x q.from q.to) t × (span_code x ≡ 0) × (q.to ≤ len_span x)) (sym ep) w)

      pub taking_turn : (row : FugueSpan) (p : Part) (after : Delete) → row ≡ x → p ≡ delete_cut left x → after ≡ delete_after left x → (r : ℕ) (T : List ℕ) → length T ≡ length t → Added at k (part_range row p.from p.to) r t T → Taking d n at s o after (i + 1) r T
      taking_turn row p after er ep en r T len w =
          let g : Added at k P r t T = subst (λ (q : Part). Added at k (part_range x q.from q.to) r t T) ep (subst (λ (z : FugueSpan). Added at k (part_range z p.from p.to) r t T) er w) in
          let a : length K ≡ k = length-ranges k (drop (at * 16) t) in
          let b : r ≡ length (add_all K P) = sym (length-ranges r (drop (at * 16) T)) ∙ ap length g.list in
          let more : k ≤ r = omega (arith, a, b, all_length K P) in
          let e : (at + k) * 16 + (r - k) * 16 ≡ (at + r) * 16 = omega (arith, more) in
          record {
            low = omega (arith, h);
            can = subst CanDelete (sym en) (can_after left x v.can);
            same = len ∙ v.same;
            old = subst AllRoom (sym g.list) (all_room K P v.old (part_room x (delete_cut left x).from (delete_cut left x).to fine (delete_most left x)));
            list = ap₂ (λ (l : List Range) (z : Delete). add_all l (took_ranges z D)) g.list en ∙ next;
            before = g.before ∙ v.before;
            past = g.past ∙
                (ap (λ (m : ℕ). drop m t) (sym e) ∙
                (sym (drop-drop ((r - k) * 16) ((at + k) * 16) t) ∙ (ap (drop ((r - k) * 16)) v.past ∙ (drop-drop ((r - k) * 16) ((at + k) * 16) o ∙ ap (λ (m : ℕ). drop m o) e))));
          }

    pub taking_done : n ≤ i → Wrote at (targets_of d (expand (rows n s))) k o t
    taking_done h =
        record {
          list = none ∙ (ap (λ (l : List FugueSpan). add_all (ranges k (drop (at * 16) t)) (took_ranges left l)) (sym (row_none n s i h)) ∙ v.list);
          before = v.before;
          past = v.past;
        }
      where
        none : ranges k (drop (at * 16) t) ≡ add_all (ranges k (drop (at * 16) t)) (took_ranges left [])
        none = unfold add_all took_ranges in refl
