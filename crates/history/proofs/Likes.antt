-- Units whose statuses alone have changed, and the real ids of the placeholder's: ids, what the edits made of them and what ranges name among them stay.
use Prim.Native.Nat.{ℕ, zero, suc}
use mathlib.Core.Path.{◌≡◌, refl, sym, ap, ap₂, subst, ◌∙◌}
use mathlib.Core.Logic.{◌⊎◌, inl, inr}
use mathlib.Core.Bool.{Bool, true, false, ◌&&◌, ◌||◌, cond}
use mathlib.Core.List.Memᴰ
use mathlib.Core.List.{List, [], ◌∷◌, ◌++◌, map}
use lib.Dec.{eqb}
use lib.ListN.{length}
use Rattle.std.specs.Prelude.{Some}
use Rattle.span.specs.declared.chunk.RichtextChunk.{RichtextChunk}
use Rattle.span.specs.declared.ids.Id.{Id}
use Rattle.span.specs.Maybe.{OptId}
use Rattle.span.specs.declared.span.FugueSpan.{FugueSpan}
use Rattle.span.specs.Ids.{UNKNOWN_PEER, inc_id, same_id, same_opt}
use Rattle.span.specs.Status.{activated}
use Rattle.units.specs.Lists.{every, some, keep_if}
use Rattle.units.specs.Place.{mem_id, front, behind}
use Rattle.units.specs.Change.{with_state, or_real, delete_unit, delete_first, delete_units}
use Rattle.rope.proofs.Alikes.{Alike}
use Rattle.fugue.proofs.ScanPlace.{Mem}
use Rattle.fugue.proofs.Cursor.{front-behind}
use Rattle.history.specs.Edit.{Version, Range, Held, History}
use Rattle.history.specs.Checkout.{in_ranges, ranges_of, units_at}
use Rattle.history.specs.Checkout as Co
use Rattle.history.specs.Valid.{same_unit, same_units, total, same_ranges, ranges_in, act_length, targets_fit}
use Rattle.history.proofs.Stable.{Real}

pub record Like (u w : FugueSpan) : Type 0 where
  pub id : u.id ≡ w.id
  pub lamport : u.lamport ≡ w.lamport
  pub content : u.content ≡ w.content
  pub left : u.origin_left ≡ w.origin_left
  pub right : u.origin_right ≡ w.origin_right
  pub real : (u.id.peer ≡ UNKNOWN_PEER) ⊎ (u.real_id ≡ w.real_id)

unfoldable pub Likes : List FugueSpan → List FugueSpan → Type 0
Likes [] [] = Unit {0}
Likes [] (w ∷ ws) = ⊥
Likes (u ∷ us) [] = ⊥
Likes (u ∷ us) (w ∷ ws) = Like u w × Likes us ws

-- ---- what stays

pub likes_alike : (us ws : List FugueSpan) → Likes us ws → Alike us ws
unfolding Likes Alike
likes_alike [] [] k = tt
likes_alike [] (w ∷ ws) k = absurd k
likes_alike (u ∷ us) [] k = absurd k
likes_alike (u ∷ us) (w ∷ ws) k = ((k.0.id, (k.0.left, k.0.right)), likes_alike us ws k.1)

pub likes_length : (us ws : List FugueSpan) → Likes us ws → length us ≡ length ws
unfolding Likes
likes_length [] [] k = refl
likes_length [] (w ∷ ws) k = absurd k
likes_length (u ∷ us) [] k = absurd k
likes_length (u ∷ us) (w ∷ ws) k = ap suc (likes_length us ws k.1)

pub likes_mem : (o : OptId) (us ws : List FugueSpan) → Likes us ws → mem_id o us ≡ mem_id o ws
unfolding Likes mem_id
likes_mem o [] [] k = refl
likes_mem o [] (w ∷ ws) k = absurd k
likes_mem o (u ∷ us) [] k = absurd k
likes_mem o (u ∷ us) (w ∷ ws) k = ap₂ (λ (i : Id) (b : Bool). same_opt o (Some i) || b) k.0.id (likes_mem o us ws k.1)

-- the ids of the units whose ids pass a test
abbrev pub kept_ids : (Id → Bool) → List FugueSpan → List Id
kept_ids t us = map (λ (u : FugueSpan). u.id) (keep_if (λ (u : FugueSpan). t u.id) us)

pub kept_step : (t : Id → Bool) (u : FugueSpan) (us : List FugueSpan) → kept_ids t (u ∷ us) ≡ cond (t u.id) (u.id ∷ kept_ids t us) (kept_ids t us)
unfolding keep_if
kept_step t u us = go (t u.id)
  where
    go : (b : Bool) → map (λ (u : FugueSpan). u.id) (cond b (u ∷ keep_if (λ (u : FugueSpan). t u.id) us) (keep_if (λ (u : FugueSpan). t u.id) us)) ≡ cond b (u.id ∷ kept_ids t us) (kept_ids t us)
    go true = refl
    go false = refl

kept_ids_lem : (t : Id → Bool) (us ws : List FugueSpan) → Likes us ws → kept_ids t us ≡ kept_ids t ws
unfolding Likes
kept_ids_lem t [] [] k = refl
kept_ids_lem t [] (w ∷ ws) k = absurd k
kept_ids_lem t (u ∷ us) [] k = absurd k
kept_ids_lem t (u ∷ us) (w ∷ ws) k = kept_step t u us ∙ (ap₂ (λ (i : Id) (l : List Id). cond (t i) (i ∷ l) l) k.0.id (kept_ids_lem t us ws k.1) ∙ sym (kept_step t w ws))

-- the units that ranges name
pub likes_ranges : (us ws : List FugueSpan) → Likes us ws → (rs : List Range) → ranges_in us rs ≡ ranges_in ws rs
unfolding ranges_in
likes_ranges us ws k rs = ap ranges_of (kept_ids_lem (λ (i : Id). in_ranges i rs) us ws k)

pub likes_targets : (us ws : List FugueSpan) → Likes us ws → (x : Held) → targets_fit us x ≡ targets_fit ws x
unfolding targets_fit
likes_targets us ws k x = ap (λ (rs : List Range). eqb (total x.took) (act_length x.edit.act) && same_ranges x.took rs) (likes_ranges us ws k x.took)

-- the unit that an edit made
like_unit : (u w m : FugueSpan) → Like u w → same_unit u m ≡ same_unit w m
unfolding same_unit
like_unit u w m k = ap₂ ◌&&◌ (ap (λ (i : Id). same_id i m.id) k.id) (ap₂ ◌&&◌ (ap (λ (n : ℕ). eqb n m.lamport) k.lamport) (ap₂ ◌&&◌ (ap (λ (c : RichtextChunk). eqb c.start m.content.start) k.content)
    (ap₂ ◌&&◌ (ap (λ (c : RichtextChunk). eqb c.end m.content.end) k.content) (real k.real))))
  where
    real : (u.id.peer ≡ UNKNOWN_PEER) ⊎ (u.real_id ≡ w.real_id) → (eqb u.id.peer UNKNOWN_PEER || same_opt u.real_id m.real_id) ≡ (eqb w.id.peer UNKNOWN_PEER || same_opt w.real_id m.real_id)
    real (inl d) = ap (λ (p : ℕ). eqb p UNKNOWN_PEER || same_opt u.real_id m.real_id) d ∙ sym (ap (λ (p : ℕ). eqb p UNKNOWN_PEER || same_opt w.real_id m.real_id) (ap (λ (i : Id). i.peer) (sym k.id) ∙ d))
    real (inr d) = ap₂ (λ (i : Id) (r : OptId). eqb i.peer UNKNOWN_PEER || same_opt r m.real_id) k.id d

like_some : (u w : FugueSpan) (made : List FugueSpan) → Like u w → some (same_unit u) made ≡ some (same_unit w) made
unfolding some
like_some u w [] k = refl
like_some u w (m ∷ made) k = ap₂ ◌||◌ (like_unit u w m k) (like_some u w made k)

pub likes_made : (us ws made : List FugueSpan) → Likes us ws → every (λ (u : FugueSpan). some (same_unit u) made) us ≡ every (λ (u : FugueSpan). some (same_unit u) made) ws
unfolding Likes every
likes_made [] [] made k = refl
likes_made [] (w ∷ ws) made k = absurd k
likes_made (u ∷ us) [] made k = absurd k
likes_made (u ∷ us) (w ∷ ws) made k = ap₂ ◌&&◌ (like_some u w made k.0) (likes_made us ws made k.1)

pub likes_units : (us ws made : List FugueSpan) → Likes us ws → same_units us made ≡ same_units ws made
unfolding same_units
likes_units us ws made k = ap₂ (λ (n : ℕ) (b : Bool). eqb n (length made) && b) (likes_length us ws k) (likes_made us ws made k)

-- ---- a checkout

like_at : (v : Version) (held : List Held) (u : FugueSpan) → Like u (Co.unit_at v held u)
unfolding Co.unit_at with_state
like_at v held u = record { id = refl; lamport = refl; content = refl; left = refl; right = refl; real = inr refl }

map_at : (v : Version) (held : List Held) (us : List FugueSpan) → Likes us (map (Co.unit_at v held) us)
unfolding Likes
map_at v held [] = tt
map_at v held (u ∷ us) = (like_at v held u, map_at v held us)

pub likes_at : (v : Version) (h : History) → Likes h.list (units_at v h)
unfolding units_at
likes_at v h = map_at v h.held h.list

-- ---- a delete, of units that have a real id unless they are a placeholder's

likes_refl : (us : List FugueSpan) → Likes us us
unfolding Likes
likes_refl [] = tt
likes_refl (u ∷ us) = (record { id = refl; lamport = refl; content = refl; left = refl; right = refl; real = inr refl }, likes_refl us)

likes_append : (us ws A B : List FugueSpan) → Likes us ws → Likes A B → Likes (us ++ A) (ws ++ B)
unfolding Likes
likes_append [] [] A B k j = j
likes_append [] (w ∷ ws) A B k j = absurd k
likes_append (u ∷ us) [] A B k j = absurd k
likes_append (u ∷ us) (w ∷ ws) A B k j = (k.0, likes_append us ws A B k.1 j)

like_deleted : (i : Id) (u : FugueSpan) → Real u → Like u (delete_unit i u)
unfolding delete_unit with_state
like_deleted i u r = record { id = refl; lamport = refl; content = refl; left = refl; right = refl; real = real r }
  where
    real : Real u → (u.id.peer ≡ UNKNOWN_PEER) ⊎ (u.real_id ≡ or_real u.real_id i)
    real (inl d) = inl d
    real (inr t) = inr (t.1 ∙ sym (ap (λ (z : OptId). or_real z i) t.1))

likes_first : (us : List FugueSpan) (n : ℕ) (i : Id) → ((u : FugueSpan) → Mem u us → Real u) → Likes us (delete_first us n i)
unfolding Likes delete_first
likes_first [] n i f = tt
likes_first (u ∷ us) zero i f = likes_refl (u ∷ us)
likes_first (u ∷ us) (suc n) i f = go (activated u.status) (likes_first us n (inc_id i 1) (λ (w : FugueSpan) (m : Mem w us). f w (Memᴰ.tail m))) (likes_first us (suc n) i (λ (w : FugueSpan) (m : Mem w us). f w (Memᴰ.tail m)))
  where
    go : (b : Bool) → Likes us (delete_first us n (inc_id i 1)) → Likes us (delete_first us (suc n) i) → Likes (u ∷ us) (cond b (delete_unit i u ∷ delete_first us n (inc_id i 1)) (u ∷ delete_first us (suc n) i))
    go true x y = (like_deleted i u (f u (Memᴰ.head refl)), x)
    go false x y = (record { id = refl; lamport = refl; content = refl; left = refl; right = refl; real = inr refl }, y)

pub likes_delete : (at n : ℕ) (i : Id) (us : List FugueSpan) → ((u : FugueSpan) → Mem u us → Real u) → Likes us (delete_units at n i us)
unfolding delete_units
likes_delete at n i us f = subst (λ (z : List FugueSpan). Likes z (front us at ++ delete_first (behind us at) n i)) (front-behind us at)
    (likes_append (front us at) (front us at) (behind us at) (delete_first (behind us at) n i) (likes_refl (front us at))
    (likes_first (behind us at) n i (λ (u : FugueSpan) (m : Mem u (behind us at)). f u (subst (λ (z : List FugueSpan). Mem u z) (front-behind us at) (Memᴰ.append_right (front us at) m)))))
