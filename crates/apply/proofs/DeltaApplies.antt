-- Each delta, applied to the old visible list, gives the new one: the law, on the definitions. Assumes nothing.
use Prim.Native.Nat.{ℕ, zero, suc, ◌+◌}
use mathlib.Core.Path.{◌≡◌, refl, sym, ap, ap₂, ◌∙◌}
use mathlib.Core.Bool.{Bool, true, false, cond}
use mathlib.Core.List.{List, [], ◌∷◌, ◌++◌, map, append_assoc}
use native.Mathlib.Omega.{arith}
use lib.Dec.{eqb}
use lib.ListN.{length, length-append}
use lib.Seq.{take_at, drop_at}
use borrow.Author.Tests.{eqb-true}
use Rattle.std.specs.Prelude.{None, Some}
use Rattle.span.specs.declared.chunk.RichtextChunk.{RichtextChunk}
use Rattle.span.specs.declared.ids.Id.{Id}
use Rattle.span.specs.Maybe.{OptId}
use Rattle.span.specs.declared.status.Status.{Status}
use Rattle.span.specs.Maybe.{OptStatus}
use Rattle.span.specs.declared.span.FugueSpan.{FugueSpan}
use Rattle.span.specs.declared.span.DiffStatus.{DiffStatus}
use Rattle.span.specs.declared.span.DiffStatus.TheVariants.{NotChanged, Created, Deleted}
use Rattle.span.specs.Chunk.{len_of}
use Rattle.span.specs.Status.{activated}
use Rattle.span.specs.Span.{len_span, shift, diff_by, diff_of, active_by, active_in_diff, real_of, active_len}
use Rattle.span.specs.Units.{tab, unit_at, units_of, expand, join}
use Rattle.span.proofs.Unique.{AllUnits, expand-join}
use Rattle.units.specs.Lists.{keep_if}
use Rattle.units.specs.Change.{with_state}
use Rattle.units.specs.Query.{visibles}
use Rattle.units.specs.declared.diff.Entry.{Entry}
use Rattle.units.specs.declared.diff.Entry.TheVariants.{Retain, Delete}
use Rattle.units.specs.Delta.{insert_of_span, retain, entry_by, entries_from, entries}
use Rattle.rope.proofs.Reals.{real_part}
use Rattle.apply.specs.declared.item.Item.{Item}
use Rattle.apply.specs.Apply.{Given, Known, item_of, items, new_unit, or_status, item_at, items_of, applied}

-- ---- items of a list

pub items-cons : (u : FugueSpan) (l : List FugueSpan) (t : Bool) → activated u.status ≡ t → items (u ∷ l) ≡ cond t (item_of u ∷ items l) (items l)
unfolding items visibles keep_if
items-cons u l t e = ap (λ (b : Bool). map item_of (cond b (u ∷ visibles l) (visibles l))) e ∙ go t
  where
    go : (b : Bool) → map item_of (cond b (u ∷ visibles l) (visibles l)) ≡ cond b (item_of u ∷ map item_of (visibles l)) (map item_of (visibles l))
    go true = refl
    go false = refl

pub items-append : (l m : List FugueSpan) → items (l ++ m) ≡ items l ++ items m
unfolding items visibles keep_if
items-append [] m = refl
items-append (u ∷ l) m = go (items-append l m) (activated u.status) refl
  where
    go : items (l ++ m) ≡ items l ++ items m → (t : Bool) → activated u.status ≡ t → items (u ∷ (l ++ m)) ≡ items (u ∷ l) ++ items m
    go on true e = items-cons u (l ++ m) true e ∙ (ap (λ (k : List Item). item_of u ∷ k) on ∙ sym (ap (λ (k : List Item). k ++ items m) (items-cons u l true e)))
    go on false e = items-cons u (l ++ m) false e ∙ (on ∙ sym (ap (λ (k : List Item). k ++ items m) (items-cons u l false e)))

pub map-append : (f : FugueSpan → FugueSpan) (l m : List FugueSpan) → map f (l ++ m) ≡ map f l ++ map f m
map-append f [] m = refl
map-append f (u ∷ l) m = ap (λ (k : List FugueSpan). f u ∷ k) (map-append f l m)

-- ---- items of a span: all its units, or none

-- units that are all visible, or none of them, and are those of an Insert
items-tab : (f : ℕ → FugueSpan) (c : RichtextChunk) (x : Id) (t : Bool) → ((k : ℕ) → activated (f k).status ≡ t) → ((k : ℕ) → item_of (f k) ≡ item_at c x k) → (i n : ℕ) → items (tab f i n) ≡ cond t (tab (item_at c x) i n) []
unfolding items visibles keep_if tab
items-tab f c x true e p i zero = refl
items-tab f c x false e p i zero = refl
items-tab f c x true e p i (suc n) =
    items-cons (f i) (tab f (suc i) n) true (e i) ∙ ap₂ (λ (a : Item) (l : List Item). a ∷ l) (p i) (items-tab f c x true e p (suc i) n)
items-tab f c x false e p i (suc n) =
    items-cons (f i) (tab f (suc i) n) false (e i) ∙ items-tab f c x false e p (suc i) n

map-tab : (g : FugueSpan → FugueSpan) (f : ℕ → FugueSpan) (i n : ℕ) → map g (tab f i n) ≡ tab (λ (k : ℕ). g (f k)) i n
unfolding tab
map-tab g f i zero = refl
map-tab g f i (suc n) = ap (λ (l : List FugueSpan). g (f i) ∷ l) (map-tab g f (suc i) n)

-- the units of s as items, where they are visible
abbrev pub shown_if : FugueSpan → Bool → List Item
shown_if s t = cond t (items_of s.content (real_of s)) []

pub unit_item : (s : FugueSpan) (k : ℕ) → item_of (unit_at s k) ≡ item_at s.content (real_of s) k
unfolding item_of item_at shift
unit_item s k = ap (λ (i : Id). record { id = i; content = (unit_at s k).content }) (real_part s k (suc k))

pub new_item : (u : FugueSpan) → item_of (new_unit u) ≡ item_of u
unfolding item_of new_unit with_state real_of
new_item u = refl

new_shown : (u : FugueSpan) → activated (new_unit u).status ≡ active_in_diff u
unfolding new_unit with_state active_in_diff
new_shown u = go u.diff_status
  where
    go : (d : OptStatus) → activated (or_status d u.status) ≡ active_by d (activated u.status)
    go None = refl
    go (Some x) = refl

unit_shown : (s : FugueSpan) (k : ℕ) → activated (unit_at s k).status ≡ activated s.status
unfolding shift
unit_shown s k = refl

unit_diff : (s : FugueSpan) (k : ℕ) → active_in_diff (unit_at s k) ≡ active_in_diff s
unfolding shift active_in_diff
unit_diff s k = refl

pub items_old : (s : FugueSpan) → items (units_of s) ≡ shown_if s (activated s.status)
unfolding units_of items_of
items_old s = items-tab (unit_at s) s.content (real_of s) (activated s.status) (unit_shown s) (unit_item s) 0 (len_span s)

pub items_new : (s : FugueSpan) → items (map new_unit (units_of s)) ≡ shown_if s (active_in_diff s)
unfolding units_of items_of
items_new s =
    ap items (map-tab new_unit (unit_at s) 0 (len_span s))
    ∙ items-tab (λ (k : ℕ). new_unit (unit_at s k)) s.content (real_of s) (active_in_diff s) (λ (k : ℕ). new_shown (unit_at s k) ∙ unit_diff s k) (λ (k : ℕ). new_item (unit_at s k) ∙ unit_item s k) 0 (len_span s)

-- ---- what a span does: it stays as it is, comes into view, or goes out of it

pub data Turn (s : FugueSpan) : Type 0 where
  stays : (t : Bool) → diff_of s ≡ NotChanged → activated s.status ≡ t → active_in_diff s ≡ t → Turn s
  comes : diff_of s ≡ Created → activated s.status ≡ false → active_in_diff s ≡ true → Turn s
  goes : diff_of s ≡ Deleted → activated s.status ≡ true → active_in_diff s ≡ false → Turn s

pub turn : (s : FugueSpan) → Turn s
unfolding diff_of active_in_diff
turn s = go s.diff_status refl
  where
    both : (t u : Bool) (d : DiffStatus) → d ≡ cond t (cond u NotChanged Deleted) (cond u Created NotChanged) → diff_of s ≡ d → activated s.status ≡ t → active_in_diff s ≡ u → Turn s
    both true true d p q a b = stays true (q ∙ p) a b
    both false false d p q a b = stays false (q ∙ p) a b
    both true false d p q a b = goes (q ∙ p) a b
    both false true d p q a b = comes (q ∙ p) a b

    go : (d : OptStatus) → s.diff_status ≡ d → Turn s
    go None e = stays (activated s.status) (ap (λ (d : OptStatus). diff_by d (activated s.status)) e) refl (ap (λ (d : OptStatus). active_by d (activated s.status)) e)
    go (Some x) e = both (activated s.status) (activated x) _ refl (ap (λ (d : OptStatus). diff_by d (activated s.status)) e) refl (ap (λ (d : OptStatus). active_by d (activated s.status)) e)

-- ---- the law

abbrev known : List Entry → List Given
known es = map Known es

-- a gap keeps as many units
retain_applies : (gap : ℕ) (pre old : List Item) (es : List Entry) → length pre ≡ gap → applied (known (retain gap es)) (pre ++ old) ≡ pre ++ applied (known es) old
unfolding retain applied
retain_applies gap pre old es e = go (eqb gap 0) refl
  where
    none : (p : List Item) → length p ≡ 0 → applied (known es) (p ++ old) ≡ p ++ applied (known es) old
    none [] z = refl
    none (a ∷ p) z = absurd (omega arith)

    go : (t : Bool) → eqb gap 0 ≡ t → applied (known (cond t es (Retain gap ∷ es))) (pre ++ old) ≡ pre ++ applied (known es) old
    go true q = let z : gap ≡ 0 = eqb-true gap 0 q in none pre (e ∙ z)
    go false q = ap₂ (λ (a b : List Item). a ++ applied (known es) b) (take_at pre old gap e) (drop_at pre old gap e)

tab-length : {A : Type 0} (f : ℕ → A) (i n : ℕ) → length (tab f i n) ≡ n
unfolding tab
tab-length f i zero = refl
tab-length f i (suc n) = ap suc (tab-length f (suc i) n)

pub items_length : (c : RichtextChunk) (x : Id) → length (items_of c x) ≡ len_of c
unfolding items_of
items_length c x = tab-length (item_at c x) 0 (len_of c)

pub shown_length : (s : FugueSpan) (t : Bool) → activated s.status ≡ t → length (shown_if s t) ≡ active_len s
unfolding active_len
shown_length s true e = items_length s.content (real_of s) ∙ sym (ap (λ (b : Bool). cond b (len_span s) 0) e)
shown_length s false e = sym (ap (λ (b : Bool). cond b (len_span s) 0) e)

module _ (s : FugueSpan) (l : List FugueSpan) where
  old_span : (t : Bool) → activated s.status ≡ t → items (expand (s ∷ l)) ≡ shown_if s t ++ items (expand l)
  unfolding expand
  old_span t e = items-append (units_of s) (expand l) ∙ ap (λ (k : List Item). k ++ items (expand l)) (items_old s ∙ ap (shown_if s) e)

  new_span : (t : Bool) → active_in_diff s ≡ t → items (map new_unit (expand (s ∷ l))) ≡ shown_if s t ++ items (map new_unit (expand l))
  unfolding expand
  new_span t e =
      ap items (map-append new_unit (units_of s) (expand l))
      ∙ (items-append (map new_unit (units_of s)) (map new_unit (expand l)) ∙ ap (λ (k : List Item). k ++ items (map new_unit (expand l))) (items_new s ∙ ap (shown_if s) e))

  pub entries_by : (gap : ℕ) (d : DiffStatus) → diff_of s ≡ d → entries_from (s ∷ l) gap ≡ entry_by d gap s (entries_from l (gap + active_len s)) (entries_from l 0)
  unfolding entries_from
  entries_by gap d e = ap (λ (x : DiffStatus). entry_by x gap s (entries_from l (gap + active_len s)) (entries_from l 0)) e

  made : (new : List Item) → applied (known (entries_from l 0)) (items (expand l)) ≡ new → applied (known (insert_of_span s ∷ entries_from l 0)) (items (expand l)) ≡ items_of s.content (real_of s) ++ new
  unfolding insert_of_span applied
  made new e = ap (λ (o : List Item). items_of s.content (real_of s) ++ o) e

-- `pre` are the visible units since the last change
applies_from : (l : List FugueSpan) (gap : ℕ) (pre : List Item) → length pre ≡ gap → applied (known (entries_from l gap)) (pre ++ items (expand l)) ≡ pre ++ items (map new_unit (expand l))
unfolding entries_from applied expand items visibles keep_if
applies_from [] gap pre e = refl
applies_from (s ∷ l) gap pre e = go (applies_from l) (turn s)
  where
    go : ((g : ℕ) (p : List Item) → length p ≡ g → applied (known (entries_from l g)) (p ++ items (expand l)) ≡ p ++ items (map new_unit (expand l))) → Turn s → applied (known (entries_from (s ∷ l) gap)) (pre ++ items (expand (s ∷ l))) ≡ pre ++ items (map new_unit (expand (s ∷ l)))
    go on (stays t d a b) =
        ap₂ (λ (es : List Entry) (o : List Item). applied (known es) o) (entries_by s l gap NotChanged d) (ap (λ (o : List Item). pre ++ o) (old_span s l t a) ∙ sym (append_assoc pre (shown_if s t) (items (expand l))))
        ∙ (on (gap + active_len s) (pre ++ shown_if s t) (length-append pre (shown_if s t) ∙ ap₂ ◌+◌ e (shown_length s t a))
        ∙ (append_assoc pre (shown_if s t) (items (map new_unit (expand l))) ∙ sym (ap (λ (o : List Item). pre ++ o) (new_span s l t b))))
    go on (comes d a b) =
        ap₂ (λ (es : List Entry) (o : List Item). applied (known es) o) (entries_by s l gap Created d) (ap (λ (o : List Item). pre ++ o) (old_span s l false a))
        ∙ (retain_applies gap pre (items (expand l)) (insert_of_span s ∷ entries_from l 0) e
        ∙ ap (λ (o : List Item). pre ++ o) (made s l _ (on 0 [] refl) ∙ sym (new_span s l true b)))
    go on (goes d a b) =
        ap₂ (λ (es : List Entry) (o : List Item). applied (known es) o) (entries_by s l gap Deleted d) (ap (λ (o : List Item). pre ++ o) (old_span s l true a))
        ∙ (retain_applies gap pre (items_of s.content (real_of s) ++ items (expand l)) (Delete (len_span s) ∷ entries_from l 0) e
        ∙ ap (λ (o : List Item). pre ++ o) (ap (applied (known (entries_from l 0))) (drop_at (items_of s.content (real_of s)) (items (expand l)) (len_span s) (items_length s.content (real_of s))) ∙ (on 0 [] refl ∙ sym (new_span s l false b))))

-- the delta of a list of spans, applied to its visible units, gives those that are visible at the version compared with
pub delta_applies : (l : List FugueSpan) → applied (map Known (entries l)) (items (expand l)) ≡ items (map new_unit (expand l))
unfolding entries
delta_applies l = applies_from l 0 [] refl

with_status : (u : FugueSpan) (s : Status) (d : OptStatus) (r : OptId) → (with_state u s d r).status ≡ s
unfolding with_state
with_status u s d r = refl

with_item : (u : FugueSpan) (s : Status) (d : OptStatus) → item_of (with_state u s d u.real_id) ≡ item_of (with_state u s None u.real_id)
unfolding item_of with_state real_of
with_item u s d = refl

-- the same of units, which a list of spans may have joined: the status of each at two versions, a as status and b as diff_status
module _ (a b : FugueSpan → Status) where
  abbrev pub between : FugueSpan → FugueSpan
  between u = with_state u (a u) (Some (b u)) u.real_id

abbrev pub standing : (FugueSpan → Status) → FugueSpan → FugueSpan
standing f u = with_state u (f u) None u.real_id

module _ (a b : FugueSpan → Status) where
  pub old_same : (l : List FugueSpan) → items (map (between a b) l) ≡ items (map (standing a) l)
  unfolding items visibles keep_if
  old_same [] = refl
  old_same (u ∷ l) = go (old_same l) (activated (a u)) refl
    where
      shown : activated (between a b u).status ≡ activated (a u)
      shown = ap activated (with_status u (a u) (Some (b u)) u.real_id)

      go : items (map (between a b) l) ≡ items (map (standing a) l) → (t : Bool) → activated (a u) ≡ t → items (map (between a b) (u ∷ l)) ≡ items (map (standing a) (u ∷ l))
      go on true e =
          items-cons (between a b u) (map (between a b) l) true (shown ∙ e)
          ∙ (ap₂ (λ (x : Item) (m : List Item). x ∷ m) (with_item u (a u) (Some (b u))) on
          ∙ sym (items-cons (standing a u) (map (standing a) l) true (ap activated (with_status u (a u) None u.real_id) ∙ e)))
      go on false e =
          items-cons (between a b u) (map (between a b) l) false (shown ∙ e)
          ∙ (on ∙ sym (items-cons (standing a u) (map (standing a) l) false (ap activated (with_status u (a u) None u.real_id) ∙ e)))

  pub new_same : (l : List FugueSpan) → map new_unit (map (between a b) l) ≡ map (standing b) l
  unfolding new_unit with_state
  new_same [] = refl
  new_same (u ∷ l) = ap (λ (m : List FugueSpan). standing b u ∷ m) (new_same l)

  -- the delta from one version to another, applied to the visible list of the one, gives that of the other
  pub between_applies : (l : List FugueSpan) → AllUnits (map (between a b) l) → applied (map Known (entries (join (map (between a b) l)))) (items (map (standing a) l)) ≡ items (map (standing b) l)
  between_applies l h =
      let e : expand (join (map (between a b) l)) ≡ map (between a b) l = expand-join (map (between a b) l) h in
      ap (applied (map Known (entries (join (map (between a b) l))))) (sym (ap items e ∙ old_same l))
      ∙ (delta_applies (join (map (between a b) l)) ∙ ap (λ (m : List FugueSpan). items (map new_unit m)) e ∙ ap items (new_same l))
