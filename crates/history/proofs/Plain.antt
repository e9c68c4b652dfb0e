-- What of a unit never changes: all but its statuses, and the real id of a placeholder unit. What a version shows is made of that alone, and
-- no origin or target depends on more.
use Prim.Native.Nat.{ℕ, zero, suc}
use mathlib.Core.Path.{◌≡◌, refl, ap, ap₂, ◌∙◌}
use mathlib.Core.Bool.{Bool, true, false, not, cond}
use mathlib.Core.List.{List, [], ◌∷◌, map}
use lib.Dec.{eqb}
use lib.IntN.{pos}
use Rattle.std.specs.Prelude.{None, Some}
use Rattle.span.specs.declared.ids.Id.{Id}
use Rattle.span.specs.Maybe.{OptId}
use Rattle.span.specs.declared.status.Status.{Status}
use Rattle.span.specs.declared.span.FugueSpan.{FugueSpan}
use Rattle.span.specs.Ids.{UNKNOWN_PEER}
use Rattle.span.specs.Status.{status, activated}
use Rattle.units.specs.Lists.{keep_if}
use Rattle.units.specs.Place.{front, behind, last_id, first_past, origin_left, origin_right, shown}
use Rattle.units.specs.Change.{with_state, first_shown, taken}
use Rattle.fugue.specs.Tree.{ol, or}
use Rattle.fugue.proofs.Past.{past_of}
use Rattle.fugue.proofs.Alike.{Same}
use Rattle.history.specs.Edit.{Version, Held, History}
use Rattle.history.specs.Version.{in_version}
use Rattle.history.specs.Checkout.{deletes_in, status_at}
use Rattle.history.specs.Checkout as Co
use Rattle.history.specs.Demand.{real_plain, no_real}

unfoldable pub plain : FugueSpan → FugueSpan
plain u = with_state u (status false (pos 0)) None (real_plain u)

-- at a version
unfoldable pub view : Version → List Held → FugueSpan → FugueSpan
view v held u = with_state u (status_at v held u.id) None (real_plain u)

-- the units of a version, in list order: what an edit with this context sees
abbrev pub sees : Version → History → List FugueSpan
sees v h = past_of (map (view v h.held) h.list)

-- ---- what plain and view keep

pub plain_same : (u v : FugueSpan) → plain u ≡ plain v → Same u v
unfolding plain with_state
plain_same u v e = record { id = ap (λ (z : FugueSpan). z.id) e; left = ap ol e; right = ap or e }

pub view_same : (v : Version) (held : List Held) (u : FugueSpan) → Same u (view v held u)
unfolding view with_state
view_same v held u = record { id = refl; left = refl; right = refl }

pub at_same : (v : Version) (held : List Held) (u : FugueSpan) → Same u (Co.unit_at v held u)
unfolding Co.unit_at with_state
at_same v held u = record { id = refl; left = refl; right = refl }

pub plain_at : (v : Version) (held : List Held) (u : FugueSpan) → plain (Co.unit_at v held u) ≡ plain u
unfolding plain real_plain Co.unit_at with_state
plain_at v held u = refl

-- a view reads the plain unit and its delete count
pub view-plain : (v : Version) (A B : List Held) (u w : FugueSpan) → plain u ≡ plain w → deletes_in v A u.id ≡ deletes_in v B w.id → view v A u ≡ view v B w
unfolding view plain with_state status_at
view-plain v A B u w e d = λ i. record {
  id = (e i).id;
  lamport = (e i).lamport;
  real_id = (e i).real_id;
  status = status (not (in_version v (e i).id)) (pos (d i));
  diff_status = None;
  origin_left = (e i).origin_left;
  origin_right = (e i).origin_right;
  content = (e i).content;
}

pub plain-view : (v : Version) (held : List Held) (u : FugueSpan) → plain (view v held u) ≡ plain u
unfolding plain view with_state
plain-view v held u = ap (λ (r : OptId). with_state u (status false (pos 0)) None r) (twice u)
  where
    twice : (u : FugueSpan) → real_plain (with_state u (status_at v held u.id) None (real_plain u)) ≡ real_plain u
    twice u = unfold real_plain in go (eqb u.id.peer UNKNOWN_PEER) u.real_id
      where
        go : (b : Bool) (r : OptId) → cond b None (cond b None r) ≡ cond b None r
        go true r = refl
        go false r = refl

-- ---- functions of a list that read ids and statuses alone

pub record Reads (f : FugueSpan → FugueSpan) : Type 0 where
  pub id : (u : FugueSpan) → (f u).id ≡ u.id
  pub status : (u : FugueSpan) → (f u).status ≡ u.status

module _ (f : FugueSpan → FugueSpan) (k : Reads f) where
  front_map : (l : List FugueSpan) (n : ℕ) → front (map f l) n ≡ map f (front l n)
  unfolding front
  front_map [] n = refl
  front_map (v ∷ l) zero = refl
  front_map (v ∷ l) (suc n) = ap (λ (z : List FugueSpan). f v ∷ z)
      (ap (λ (s : Status). front (map f l) (cond (activated s) n (suc n))) (k.status v) ∙ front_map l (cond (activated v.status) n (suc n)))

  behind_map : (l : List FugueSpan) (n : ℕ) → behind (map f l) n ≡ map f (behind l n)
  unfolding behind
  behind_map [] n = refl
  behind_map (v ∷ l) zero = refl
  behind_map (v ∷ l) (suc n) =
      ap (λ (s : Status). behind (map f l) (cond (activated s) n (suc n))) (k.status v) ∙ behind_map l (cond (activated v.status) n (suc n))

  last_id_map : (r : OptId) (l : List FugueSpan) → last_id r (map f l) ≡ last_id r l
  unfolding last_id
  last_id_map r [] = refl
  last_id_map r (v ∷ l) = ap (λ (i : Id). last_id (Some i) (map f l)) (k.id v) ∙ last_id_map (Some v.id) l

  first_past_map : (l : List FugueSpan) → first_past (map f l) ≡ first_past l
  unfolding first_past
  first_past_map [] = refl
  first_past_map (v ∷ l) = λ i. cond (k.status v i).future (first_past_map l i) (Some (k.id v i))

  pub shown_map : (l : List FugueSpan) → shown (map f l) ≡ shown l
  unfolding shown
  shown_map [] = refl
  shown_map (v ∷ l) = λ i. cond (activated (k.status v i)) (suc (shown_map l i)) (shown_map l i)

  first_shown_map : (l : List FugueSpan) (n : ℕ) → first_shown (map f l) n ≡ map f (first_shown l n)
  unfolding first_shown
  first_shown_map [] n = refl
  first_shown_map (v ∷ l) zero = refl
  first_shown_map (v ∷ l) (suc n) = go (activated v.status) (ap activated (k.status v)) (first_shown_map l)
    where
      go : (b : Bool) → activated (f v).status ≡ b → ((n : ℕ) → first_shown (map f l) n ≡ map f (first_shown l n))
          → cond (activated (f v).status) (f v ∷ first_shown (map f l) n) (first_shown (map f l) (suc n)) ≡ map f (cond b (v ∷ first_shown l n) (first_shown l (suc n)))
      go true e ih = ap (λ (b : Bool). cond b (f v ∷ first_shown (map f l) n) (first_shown (map f l) (suc n))) e ∙ ap (λ (z : List FugueSpan). f v ∷ z) (ih n)
      go false e ih = ap (λ (b : Bool). cond b (f v ∷ first_shown (map f l) n) (first_shown (map f l) (suc n))) e ∙ ih (suc n)

  pub past_map : (l : List FugueSpan) → past_of (map f l) ≡ map f (past_of l)
  unfolding keep_if
  past_map [] = refl
  past_map (v ∷ l) = go v.status.future (ap (λ (s : Status). s.future) (k.status v)) (past_map l)
    where
      go : (b : Bool) → (f v).status.future ≡ b → past_of (map f l) ≡ map f (past_of l) → cond (not (f v).status.future) (f v ∷ past_of (map f l)) (past_of (map f l)) ≡ map f (cond (not b) (v ∷ past_of l) (past_of l))
      go true e ih = ap (λ (b : Bool). cond (not b) (f v ∷ past_of (map f l)) (past_of (map f l))) e ∙ ih
      go false e ih = ap (λ (b : Bool). cond (not b) (f v ∷ past_of (map f l)) (past_of (map f l))) e ∙ ap (λ (z : List FugueSpan). f v ∷ z) ih

  pub origin_left_map : (n : ℕ) (l : List FugueSpan) → origin_left n (map f l) ≡ origin_left n l
  unfolding origin_left
  origin_left_map n l = ap (last_id None) (front_map l n) ∙ last_id_map None (front l n)

  pub origin_right_map : (n : ℕ) (l : List FugueSpan) → origin_right n (map f l) ≡ origin_right n l
  unfolding origin_right
  origin_right_map n l = ap first_past (behind_map l n) ∙ first_past_map (behind l n)

  ids_map : (l : List FugueSpan) → map (λ (u : FugueSpan). u.id) (map f l) ≡ map (λ (u : FugueSpan). u.id) l
  ids_map [] = refl
  ids_map (v ∷ l) = ap₂ ◌∷◌ (k.id v) (ids_map l)

  pub taken_map : (n m : ℕ) (l : List FugueSpan) → map (λ (u : FugueSpan). u.id) (taken n m (map f l)) ≡ map (λ (u : FugueSpan). u.id) (taken n m l)
  unfolding taken
  taken_map n m l = ap (λ (z : List FugueSpan). map (λ (u : FugueSpan). u.id) z) (ap (λ (z : List FugueSpan). first_shown z m) (behind_map l n) ∙ first_shown_map (behind l n) m)
      ∙ ids_map (first_shown (behind l n) m)

-- ---- a unit without a placeholder's real id

pub no_real_reads : Reads no_real
unfolding no_real with_state
no_real_reads = record { id = λ (u : FugueSpan). refl; status = λ (u : FugueSpan). refl }

pub view_at : (v : Version) (held : List Held) (l : List FugueSpan) → map (view v held) l ≡ map no_real (map (Co.unit_at v held) l)
unfolding view no_real real_plain Co.unit_at with_state
view_at v held [] = refl
view_at v held (u ∷ l) = ap (λ (z : List FugueSpan). view v held u ∷ z) (view_at v held l)
