-- What the edits of a log make: the loops over them, and over the rows that are to be made of it.
use Prim.Native.Nat.{ℕ, zero, suc, ◌+◌, ◌-◌, ◌*◌, ◌<◌, ◌≤◌}
use mathlib.Core.Path.{◌≡◌, refl, sym, ap, ap₂, subst, ◌∙◌}
use mathlib.Core.Bool.{Bool, true, false, not, ◌&&◌, ◌||◌, cond}
use mathlib.Core.List.{List, [], ◌∷◌, ◌++◌, append_assoc, append-nil}
use native.Mathlib.Omega.{arith}
use native.Mathlib.Decide.{dec_lt}
use native.Mathlib.Nat.{zero-add}
use lib.Dec.{leb, eqb}
use lib.IntN.{pos}
use lib.ListN.{length, drop, length-append}
use lib.Seq.{drop-drop}
use borrow.Author.Tests.{leb-true, eqb-true, eq-eqb, ne_eqb}
use Rattle.span.specs.declared.chunk.RichtextChunk.{RichtextChunk}
use Rattle.span.specs.declared.ids.Id.{Id}
use Rattle.std.specs.Prelude.{None as Nothing, Some as At}
use Rattle.span.specs.declared.span.FugueSpan.{FugueSpan}
use Rattle.span.specs.Maybe.{SpanAnswer}
use Rattle.std.specs.Prelude.{Ok as Done}
use Rattle.span.specs.Refusal.{refused as Refused}
use Rattle.span.specs.Chunk.{chunk, UNKNOWN, len_of, formed}
use Rattle.span.specs.Ids.{id, UNKNOWN_PEER, room_opt}
use Rattle.span.specs.Status.{eq_z}
use Rattle.span.specs.Span.{len_span, span_code, real_new, new_span, new_of}
use Rattle.span.specs.Units.{tab, unit_at, units_of, expand}
use Rattle.span.proofs.AnswerLaws.{is_done}
use Rattle.span.proofs.ForRope.{units_length}
use Rattle.span.proofs.IdsLaws.{room_opt_lem}
use Rattle.span.proofs.UnitLaws.{span_of_lem}
use Rattle.store.specs.Row.{rows, row_at}
use Rattle.store.specs.Limits.{PEERS}
use Rattle.units.specs.Lists.{every, some}
use Rattle.units.specs.Codes.{unless}
use Rattle.units.specs.Query.{placeholder}
use Rattle.rope.proofs.Lists.{and-true}
use Rattle.rope.proofs.Rights.{row_drop, row_none}
use Rattle.history.specs.Edit.{Act, Insert, Delete, Edit, size, size_of, Held}
use Rattle.history.specs.Arrive.{start}
use Rattle.history.specs.Version.{held_count, named, closed}
use Rattle.history.specs.Valid.{act_formed, act_ids, has_peer, peer_count, own_count, edit_code, edits_fit, act_units, edit_units, same_unit, same_units}
use Rattle.history.proofs.Start.{start-list, holder_code}
use Rattle.tracker.specs.declared.row.Head.{Head}
use Rattle.tracker.specs.Rows.{to_edit, context_in, edit_in, took_in, ranges, held}
use Rattle.tracker.specs.Made.{makes, made_in, FineAct, AllFine, all_made, Meets}
use Rattle.tracker.proofs.SameLaws.{meets_left, meets_right, none_append}

-- ---------------------------------------------------------------- what the edits make, from their rows

pub makes-held : (h : ℕ) (e t : List ℕ) → edit_units (held h e t) ≡ makes h e
unfolding edit_units held makes
makes-held zero e t = refl
makes-held (suc h) e t = ap (λ (l : List FugueSpan). act_units (edit_in e).act (edit_in e) ++ l) (makes-held h (drop 256 e) (drop (took_in e * 16) t))

-- an insert that fits is a well formed span
fine_act : (a : Act) (i : Id) → act_formed a ≡ true → (room_opt (At i) (size_of a) && act_ids a) ≡ true → FineAct a i
unfolding size_of
fine_act (Insert lamport c) i f r =
    let w = and-true (room_opt (At i) (len_of c)) (leb (lamport + len_of c) 4294967295) r in
    (unfold new_span in span_of_lem (new_span i lamport c) (len_of c) refl f (room_opt_lem i (len_of c) w.0) (leb-true (lamport + len_of c) 4294967295 w.1) (real (eqb i.peer UNKNOWN_PEER) refl w.0))
  where
    real : (b : Bool) → eqb i.peer UNKNOWN_PEER ≡ b → room_opt (At i) (len_of c) ≡ true → room_opt (real_new i) (len_of c) ≡ true
    real true p q = (unfold real_new room_opt in ap (λ (z : Bool). room_opt (cond z Nothing (At i)) (len_of c)) p)
    real false p q = (unfold real_new in ap (λ (z : Bool). room_opt (cond z Nothing (At i)) (len_of c)) p ∙ q)
fine_act (Delete n reversed target) i f r = tt

fine_edit : (l : List Held) (e : Edit) → edit_code l e ≡ 0 → FineAct e.act e.id
unfolding edit_code
fine_edit l e z = go (act_formed e.act) refl (room_opt (At e.id) (size e) && act_ids e.act) refl z
  where
    rest : ℕ
    rest = unless (has_peer l e.id.peer || not (leb PEERS (peer_count l))) 4 (unless (eq_z e.id.counter (pos (held_count l e.id.peer))) 5 (unless (named l e.context) 6 (unless (closed l e.context && own_count e) 7 0)))

    go : (a : Bool) → act_formed e.act ≡ a → (b : Bool) → (room_opt (At e.id) (size e) && act_ids e.act) ≡ b → ◌≡◌ {A = ℕ} (cond a (cond b rest 2) 1) 0 → FineAct e.act e.id
    go false p b q x = absurd (omega arith)
    go true p false q x = absurd (omega arith)
    go true p true q x = fine_act e.act e.id p q

pub fine_of : (h : ℕ) (e t : List ℕ) (l : List Held) → edits_fit l (held h e t) ≡ true → AllFine h e
unfolding edits_fit held AllFine
fine_of zero e t l z = tt
fine_of (suc h) e t l z =
    let x : Held = record { edit = edit_in e; took = ranges (took_in e) t } in
    let w = and-true (eqb (edit_code l (edit_in e)) 0) (edits_fit (l ++ (x ∷ [])) (held h (drop 256 e) (drop (took_in e * 16) t))) z in
    (fine_edit l (edit_in e) (eqb-true (edit_code l (edit_in e)) 0 w.0), fine_of h (drop 256 e) (drop (took_in e * 16) t) (l ++ (x ∷ [])) w.1)

-- ---------------------------------------------------------------- a row against an insert

pub new_done : (i : Id) (lamport : ℕ) (c : RichtextChunk) (a : SpanAnswer) → a ≡ new_of i lamport c → span_code (new_span i lamport c) ≡ 0 → a ≡ Done (new_span i lamport c)
new_done i lamport c a e z = e ∙ sym (is_done Done Refused (span_code (new_span i lamport c)) z refl)

pub meets_new : (s : FugueSpan) (k : ℕ) (x y : FugueSpan) (a : SpanAnswer) (r : ℕ) → a ≡ Done y → a ≡ Done x → Meets s k (units_of x) r → Meets s k (units_of y) r
meets_new s k x y a r p q w = let z : x ≡ y = cc in subst (λ (v : FugueSpan). Meets s k (units_of v) r) z w

pub fine_done : (x y : FugueSpan) (a : SpanAnswer) → a ≡ Done y → a ≡ Done x → span_code y ≡ 0 → span_code x ≡ 0
fine_done x y a p q w = let z : x ≡ y = cc in ap span_code z ∙ w

pub not_refused : (y : FugueSpan) (a : SpanAnswer) (n : ℕ) → a ≡ Done y → a ≡ Refused n → ⊥
not_refused y a n p q = let z : ◌≡◌ {A = ℕ} 0 1 = cc in omega arith

-- an edit in a part of the log, as it is lent
pub edit_part : (x : Head) (d l : List ℕ) → d ≡ l → to_edit x (context_in d) ≡ edit_in d → to_edit x (context_in l) ≡ edit_in l
edit_part x d l e w = subst (λ (z : List ℕ). to_edit x (context_in z) ≡ edit_in z) e w

-- against an edit
module _ (s : FugueSpan) (k : ℕ) (e x : Edit) (eq : x ≡ e) where
  pub meets_insert : (lamport : ℕ) (c : RichtextChunk) (r : ℕ) → x.act ≡ Insert lamport c → Meets s k (units_of (new_span x.id lamport c)) r → Meets s k (act_units e.act e) r
  meets_insert lamport c r p w = subst (λ (z : Edit). Meets s k (act_units z.act z) r) eq (subst (λ (a : Act). Meets s k (act_units a x) r) (sym p) w)

  pub meets_delete : (n : ℕ) (b : Bool) (i : Id) → x.act ≡ Delete n b i → k < len_span s → Meets s k (act_units e.act e) 0
  meets_delete n b i p h = subst (λ (z : Edit). Meets s k (act_units z.act z) 0) eq (subst (λ (a : Act). Meets s k (act_units a x) 0) (sym p) (record { none = λ z. (unfold some in refl); few = omega arith; all = λ j z. absurd (omega arith) }))

  pub fine_insert : (lamport : ℕ) (c : RichtextChunk) → x.act ≡ Insert lamport c → FineAct e.act e.id → span_code (new_span x.id lamport c) ≡ 0
  fine_insert lamport c p w = subst (λ (a : Act). FineAct a x.id) p (subst (λ (z : Edit). FineAct z.act z.id) (sym eq) w)

-- how many units it makes
module _ (e x : Edit) (eq : x ≡ e) where
  pub length_insert : (lamport : ℕ) (c : RichtextChunk) → x.act ≡ Insert lamport c → len_of c ≡ length (act_units e.act e)
  length_insert lamport c p = sym (ap (λ (z : Edit). length (act_units z.act z)) (sym eq) ∙ (ap (λ (a : Act). length (act_units a x)) p ∙ own))
    where
      own : length (units_of (new_span x.id lamport c)) ≡ len_of c
      own = units_length (new_span x.id lamport c) ∙ (unfold new_span in refl)

  pub length_delete : (n : ℕ) (b : Bool) (i : Id) → x.act ≡ Delete n b i → 0 ≡ length (act_units e.act e)
  length_delete n b i p = sym (ap (λ (z : Edit). length (act_units z.act z)) (sym eq) ∙ ap (λ (a : Act). length (act_units a x)) p)

-- ---------------------------------------------------------------- the loop over edits

one_less : (h i : ℕ) → i < h → h - i ≡ suc (h - (i + 1))
one_less h i l = omega arith

next_row : (i : ℕ) → i * 256 + 256 ≡ (i + 1) * 256
next_row i = omega arith

-- the edits from row i on
makes-drop : (h : ℕ) (e : List ℕ) (i : ℕ) → i < h → makes (h - i) (drop (i * 256) e) ≡ act_units (edit_in (drop (i * 256) e)).act (edit_in (drop (i * 256) e)) ++ makes (h - (i + 1)) (drop ((i + 1) * 256) e)
unfolding makes
makes-drop h e i l =
    ap (λ (m : ℕ). makes m (drop (i * 256) e)) (one_less h i l)
    ∙ ap (λ (d : List ℕ). act_units (edit_in (drop (i * 256) e)).act (edit_in (drop (i * 256) e)) ++ makes (h - (i + 1)) d) (drop-drop 256 (i * 256) e ∙ ap (λ (k : ℕ). drop k e) (next_row i))

fine_drop : (h : ℕ) (e : List ℕ) (i : ℕ) → i < h → AllFine (h - i) (drop (i * 256) e) → FineAct (edit_in (drop (i * 256) e)).act (edit_in (drop (i * 256) e)).id × AllFine (h - (i + 1)) (drop ((i + 1) * 256) e)
unfolding AllFine
fine_drop h e i l w =
    let z : AllFine (suc (h - (i + 1))) (drop (i * 256) e) = subst (λ (m : ℕ). AllFine m (drop (i * 256) e)) (one_less h i l) w in
    (z.0, subst (λ (d : List ℕ). AllFine (h - (i + 1)) d) (drop-drop 256 (i * 256) e ∙ ap (λ (k : ℕ). drop k e) (next_row i)) z.1)

-- the units of the edits before row i, none of which is unit k
pub record Searched (s : FugueSpan) (k h : ℕ) (e : List ℕ) (i : ℕ) : Type 0 where
  pub low : i ≤ h
  pub front : List FugueSpan
  pub is : makes h e ≡ front ++ makes (h - i) (drop (i * 256) e)
  pub none : some (same_unit (unit_at s k)) front ≡ false
  pub fine : AllFine (h - i) (drop (i * 256) e)

pub searched_start : (s : FugueSpan) (k h : ℕ) (e : List ℕ) → AllFine h e → Searched s k h e 0
searched_start s k h e w =
    let z : h - 0 ≡ h = omega arith in
    record {
      low = omega arith;
      front = [];
      is = ap (λ (m : ℕ). makes m e) (sym z);
      none = (unfold some in refl);
      fine = subst (λ (m : ℕ). AllFine m e) (sym z) w;
    }

module _ (s : FugueSpan) (k h : ℕ) (e : List ℕ) (i : ℕ) (v : Searched s k h e i) where
  pub searched_done : k < len_span s → h ≤ i → Meets s k (makes h e) 0
  searched_done l m =
      let z : h - i ≡ 0 = omega arith in
      let q : makes h e ≡ v.front = v.is ∙ (ap (λ (n : ℕ). v.front ++ makes n (drop (i * 256) e)) z ∙ empty) in
      record { none = λ x. ap (some (same_unit (unit_at s k))) q ∙ v.none; few = omega arith; all = λ j x. absurd (omega arith) }
    where
      empty : v.front ++ makes 0 (drop (i * 256) e) ≡ v.front
      empty = (unfold makes in append-nil v.front)

  module _ (l : i < h) where
    pub searched_fine : FineAct (edit_in (drop (i * 256) e)).act (edit_in (drop (i * 256) e)).id
    searched_fine = (fine_drop h e i l v.fine).0

    split : makes h e ≡ v.front ++ (act_units (edit_in (drop (i * 256) e)).act (edit_in (drop (i * 256) e)) ++ makes (h - (i + 1)) (drop ((i + 1) * 256) e))
    split = v.is ∙ ap (λ (z : List FugueSpan). v.front ++ z) (makes-drop h e i l)

    module _ (r : ℕ) (w : Meets s k (act_units (edit_in (drop (i * 256) e)).act (edit_in (drop (i * 256) e))) r) where
      pub searched_found : (r ≡ 0 → ⊥) → Meets s k (makes h e) r
      searched_found n = subst (λ (z : List FugueSpan). Meets s k z r) (sym split) (meets_right s k v.front (act_units (edit_in (drop (i * 256) e)).act (edit_in (drop (i * 256) e)) ++ makes (h - (i + 1)) (drop ((i + 1) * 256) e)) r v.none
          (meets_left s k (act_units (edit_in (drop (i * 256) e)).act (edit_in (drop (i * 256) e))) (makes (h - (i + 1)) (drop ((i + 1) * 256) e)) r w n))

      pub searched_next : r ≡ 0 → Searched s k h e (i + 1)
      searched_next n =
          record {
            low = omega arith;
            front = v.front ++ act_units (edit_in (drop (i * 256) e)).act (edit_in (drop (i * 256) e));
            is = split ∙ sym (append_assoc v.front (act_units (edit_in (drop (i * 256) e)).act (edit_in (drop (i * 256) e))) (makes (h - (i + 1)) (drop ((i + 1) * 256) e)));
            none = none_append (same_unit (unit_at s k)) v.front (act_units (edit_in (drop (i * 256) e)).act (edit_in (drop (i * 256) e))) v.none (w.none n);
            fine = (fine_drop h e i l v.fine).1;
          }

-- how many units they make
pub record Made (h : ℕ) (e : List ℕ) (i sum : ℕ) : Type 0 where
  pub low : i ≤ h
  pub small : sum ≤ i * 4294967295
  pub is : length (makes h e) ≡ sum + length (makes (h - i) (drop (i * 256) e))

pub made_start : (h : ℕ) (e : List ℕ) → Made h e 0 0
made_start h e =
    let z : h - 0 ≡ h = omega arith in
    record { low = omega arith; small = omega arith; is = ap (λ (m : ℕ). length (makes m e)) (sym z) ∙ sym (zero-add (length (makes (h - 0) e))) }

module _ (h : ℕ) (e : List ℕ) (i sum : ℕ) (v : Made h e i sum) where
  pub made_turn : i < h → (k : ℕ) → k ≡ length (act_units (edit_in (drop (i * 256) e)).act (edit_in (drop (i * 256) e))) → k < 4294967296 → Made h e (i + 1) (sum + k)
  made_turn l k p f =
      let q : length (makes (h - i) (drop (i * 256) e)) ≡ length (act_units (edit_in (drop (i * 256) e)).act (edit_in (drop (i * 256) e))) + length (makes (h - (i + 1)) (drop ((i + 1) * 256) e)) = ap length (makes-drop h e i l) ∙ length-append (act_units (edit_in (drop (i * 256) e)).act (edit_in (drop (i * 256) e))) (makes (h - (i + 1)) (drop ((i + 1) * 256) e)) in
      record { low = omega arith; small = omega (arith, v.small, f); is = omega (arith, v.is, q, p) }

  pub made_done : h ≤ i → sum ≡ length (makes h e)
  unfolding makes
  made_done l = let z : h - i ≡ 0 = omega arith in let q : length (makes (h - i) (drop (i * 256) e)) ≡ 0 = ap (λ (m : ℕ). length (makes m (drop (i * 256) e))) z in omega (arith, v.is, q)

-- ---------------------------------------------------------------- the placeholder

abbrev pub holder : ℕ → FugueSpan
holder p = new_span (id UNKNOWN_PEER (pos 0)) 0 (chunk UNKNOWN p)

pub holder_fine : (p : ℕ) → (p ≡ 0 → ⊥) → p ≤ 65536 → span_code (holder p) ≡ 0
unfolding placeholder
holder_fine zero n h = absurd (n refl)
holder_fine (suc p) n h = holder_code p h

start_none : (p : ℕ) → p ≡ 0 → (start p).list ≡ []
unfolding start
start_none p e = ap (λ (b : Bool). cond b [] (units_of (placeholder p))) (eq-eqb p 0 e)

start_some : (p : ℕ) → (p ≡ 0 → ⊥) → (start p).list ≡ units_of (holder p)
unfolding start placeholder
start_some p n = ap (λ (b : Bool). cond b [] (units_of (placeholder p))) (ne_eqb p 0 n)

module _ (s : FugueSpan) (k p : ℕ) where
  pub holder_none : p ≡ 0 → k < len_span s → Meets s k (start p).list 0
  holder_none z h = subst (λ (l : List FugueSpan). Meets s k l 0) (sym (start_none p z)) (record { none = λ x. (unfold some in refl); few = omega arith; all = λ j x. absurd (omega arith) })

  pub holder_some : (p ≡ 0 → ⊥) → (r : ℕ) → Meets s k (units_of (holder p)) r → Meets s k (start p).list r
  holder_some n r w = subst (λ (l : List FugueSpan). Meets s k l r) (sym (start_some p n)) w

  module _ (h : ℕ) (e : List ℕ) (r : ℕ) where
    pub made_holder : Meets s k (start p).list r → (r ≡ 0 → ⊥) → Meets s k (made_in p h e) r
    unfolding made_in
    made_holder w z = meets_left s k (start p).list (makes h e) r w z

    pub made_edits : (q : ℕ) → Meets s k (start p).list q → q ≡ 0 → Meets s k (makes h e) r → Meets s k (made_in p h e) r
    unfolding made_in
    made_edits q w z x = meets_right s k (start p).list (makes h e) r (w.none z) x

-- ---------------------------------------------------------------- a row, and the rows

-- the first k units of a row are made
pub record Row (made : List FugueSpan) (s : FugueSpan) (k : ℕ) : Type 0 where
  pub low : k ≤ len_span s
  pub all : (j : ℕ) → j < k → some (same_unit (unit_at s j)) made ≡ true

every-tab : (t : FugueSpan → Bool) (f : ℕ → FugueSpan) (i n : ℕ) → ((j : ℕ) → i ≤ j → j < i + n → t (f j) ≡ true) → every t (tab f i n) ≡ true
unfolding every tab
every-tab t f i zero h = refl
every-tab t f i (suc n) h = ap₂ ◌&&◌ (h i (omega arith) (omega arith)) (every-tab t f (suc i) n (λ j a b. h j (omega arith) (omega arith)))

and_none : (b : Bool) → (b && false) ≡ false
and_none true = refl
and_none false = refl

every_not : (t : FugueSpan → Bool) (f : ℕ → FugueSpan) (i n j : ℕ) → j < n → t (f (i + j)) ≡ false → every t (tab f i n) ≡ false
unfolding every tab
every_not t f i zero j h e = absurd (omega arith)
every_not t f i (suc n) zero h e = ap (λ (b : Bool). b && every t (tab f (suc i) n)) (let q : i ≡ i + 0 = omega arith in ap (λ (m : ℕ). t (f m)) q ∙ e)
every_not t f i (suc n) (suc j) h e =
    ap (λ (b : Bool). t (f i) && b) (every_not t f (suc i) n j (omega arith) (let q : suc i + j ≡ i + suc j = omega arith in ap (λ (m : ℕ). t (f m)) q ∙ e)) ∙ and_none (t (f i))

module _ (made : List FugueSpan) (s : FugueSpan) where
  pub row_start : Row made s 0
  row_start = record { low = omega arith; all = λ j h. absurd (omega arith) }

  module _ (k : ℕ) (v : Row made s k) where
    pub row_next : (r : ℕ) → Meets s k made r → Row made s (k + r)
    row_next r w = record { low = w.few; all = λ j h. pick j h (dec_lt j k) }
      where
        pick : (j : ℕ) → j < k + r → Dec (j < k) → some (same_unit (unit_at s j)) made ≡ true
        pick j h (yes l) = v.all j l
        pick j h (no l) = let q : k + (j - k) ≡ j = omega arith in subst (λ (m : ℕ). some (same_unit (unit_at s m)) made ≡ true) q (w.all (j - k) (omega arith))

    pub row_stop : k < len_span s → (r : ℕ) → Meets s k made r → r ≡ 0 → all_made made (units_of s) ≡ false
    unfolding all_made units_of
    row_stop l r w z = every_not (λ (u : FugueSpan). some (same_unit u) made) (unit_at s) 0 (len_span s) k l (let q : 0 + k ≡ k = zero-add k in ap (λ (m : ℕ). some (same_unit (unit_at s m)) made) q ∙ w.none z)

    pub row_done : len_span s ≤ k → all_made made (units_of s) ≡ true
    unfolding all_made units_of
    row_done l = every-tab (λ (u : FugueSpan). some (same_unit u) made) (unit_at s) 0 (len_span s) (λ j a b. v.all j (omega arith))

every-append : (t : FugueSpan → Bool) (A B : List FugueSpan) → every t (A ++ B) ≡ (every t A && every t B)
unfolding every
every-append t [] B = refl
every-append t (a ∷ A) B = go (t a) (every-append t A B)
  where
    go : (b : Bool) → every t (A ++ B) ≡ (every t A && every t B) → (b && every t (A ++ B)) ≡ ((b && every t A) && every t B)
    go true e = e
    go false e = refl

module _ (made : List FugueSpan) (n : ℕ) (s : List ℕ) (i : ℕ) where
  rows_turn : i < n → (x : FugueSpan) → x ≡ row_at s (i * 72) → (b : Bool) → b ≡ all_made made (units_of x) → all_made made (expand (drop i (rows n s))) ≡ (b && all_made made (expand (drop (i + 1) (rows n s))))
  unfolding all_made expand
  rows_turn h x e b f =
      ap (λ (l : List FugueSpan). all_made made (expand l)) (row_drop n s i h)
      ∙ (every-append (λ (u : FugueSpan). some (same_unit u) made) (units_of (row_at s (i * 72))) (expand (drop (i + 1) (rows n s)))
      ∙ ap (λ (c : Bool). c && all_made made (expand (drop (i + 1) (rows n s)))) (ap (λ (y : FugueSpan). all_made made (units_of y)) (sym e) ∙ sym f))

  module _ (h : i < n) (x : FugueSpan) (e : x ≡ row_at s (i * 72)) (b : Bool) (f : b ≡ all_made made (units_of x)) where
    pub rows_stop : b ≡ false → all_made made (expand (drop i (rows n s))) ≡ false
    rows_stop z = rows_turn h x e b f ∙ ap (λ (c : Bool). c && all_made made (expand (drop (i + 1) (rows n s)))) z

    pub rows_next : b ≡ true → all_made made (expand (drop i (rows n s))) ≡ all_made made (expand (drop (i + 1) (rows n s)))
    rows_next z = rows_turn h x e b f ∙ ap (λ (c : Bool). c && all_made made (expand (drop (i + 1) (rows n s)))) z

  pub rows_done : n ≤ i → all_made made (expand (drop i (rows n s))) ≡ true
  unfolding all_made expand every
  rows_done h = ap (λ (l : List FugueSpan). all_made made (expand l)) (row_none n s i h)

-- ---------------------------------------------------------------- the whole

module _ (us : List FugueSpan) (p h : ℕ) (e t : List ℕ) where
  made_is : (start p).list ++ edit_units (held h e t) ≡ made_in p h e
  unfolding made_in
  made_is = ap (λ (l : List FugueSpan). (start p).list ++ l) (makes-held h e t)

  made_length : length (made_in p h e) ≡ p + length (makes h e)
  unfolding made_in
  made_length = length-append (start p).list (makes h e) ∙ ap (λ (n : ℕ). n + length (makes h e)) (start-list p).0

  -- another number of units
  pub same_less : (length us ≡ p + length (makes h e) → ⊥) → false ≡ same_units us ((start p).list ++ edit_units (held h e t))
  unfolding same_units
  same_less n = sym (ap (same_units us) made_is ∙ ap (λ (b : Bool). b && every (λ (u : FugueSpan). some (same_unit u) (made_in p h e)) us) (ne_eqb (length us) (length (made_in p h e)) (λ z. n (z ∙ made_length))))

  pub same_as : length us ≡ p + length (makes h e) → (b : Bool) → b ≡ all_made (made_in p h e) us → b ≡ same_units us ((start p).list ++ edit_units (held h e t))
  unfolding same_units all_made
  same_as n b f = sym (ap (same_units us) made_is ∙ ap₂ ◌&&◌ (eq-eqb (length us) (length (made_in p h e)) (n ∙ sym made_length)) (sym f))
