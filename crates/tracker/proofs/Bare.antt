-- What the edits held say does not depend on their target ranges: what holds for one list of them holds for every other.
use Prim.Native.Nat.{ℕ, zero, suc, ◌+◌, ◌*◌}
use mathlib.Core.Path.{◌≡◌, refl, sym, ap, ap₂, ◌∙◌}
use mathlib.Core.Bool.{Bool, ◌&&◌, ◌||◌, cond}
use mathlib.Core.List.{List, [], ◌∷◌, ◌++◌, map, map-append}
use lib.Dec.{eqb}
use lib.IntN.{pos}
use lib.ListN.{drop}
use lib.Signed.{le_z}
use Rattle.units.specs.Lists.{every, some}
use Rattle.history.specs.Edit.{Version, Edit, Held, size}
use Rattle.history.specs.Version.{held_count, rising, is_held, named, closed_for, closed}
use Rattle.history.specs.Valid.{has_peer, peer_count, edit_code, edits_fit}
use Rattle.tracker.specs.Rows.{took_in, edit_in, held}

abbrev bare : Held → Held
bare h = record { edit = h.edit; took = [] }

abbrev bares : List Held → List Held
bares l = map bare l

every_bare : (f : Edit → Bool) (l : List Held) → every (λ (h : Held). f h.edit) (bares l) ≡ every (λ (h : Held). f h.edit) l
unfolding every
every_bare f [] = refl
every_bare f (x ∷ l) = ap (λ (b : Bool). f x.edit && b) (every_bare f l)

some_bare : (f : Edit → Bool) (l : List Held) → some (λ (h : Held). f h.edit) (bares l) ≡ some (λ (h : Held). f h.edit) l
unfolding some
some_bare f [] = refl
some_bare f (x ∷ l) = ap (λ (b : Bool). f x.edit || b) (some_bare f l)

count_bare : (l : List Held) (p : ℕ) → held_count (bares l) p ≡ held_count l p
unfolding held_count
count_bare [] p = refl
count_bare (x ∷ l) p = ap (λ (n : ℕ). cond (eqb x.edit.id.peer p) (size x.edit + n) n) (count_bare l p)

has_bare : (l : List Held) (p : ℕ) → has_peer (bares l) p ≡ has_peer l p
unfolding has_peer
has_bare l p = some_bare (λ (e : Edit). eqb e.id.peer p) l

peers_bare : (l : List Held) → peer_count (bares l) ≡ peer_count l
unfolding peer_count
peers_bare [] = refl
peers_bare (x ∷ l) = ap₂ (λ (b : Bool) (n : ℕ). cond b n (suc n)) (has_bare l x.edit.id.peer) (peers_bare l)

held_bare : (l : List Held) (v : Version) → every (is_held (bares l)) v ≡ every (is_held l) v
unfolding every is_held
held_bare l [] = refl
held_bare l (k ∷ v) =
    ap₂ (λ (n : ℕ) (b : Bool). (le_z (pos 1) k.many && le_z k.many (pos n)) && b) (count_bare l k.peer) (held_bare l v)

named_bare : (l : List Held) (v : Version) → named (bares l) v ≡ named l v
unfolding named
named_bare l v = ap (λ (b : Bool). rising v && b) (held_bare l v)

closed_bare : (l : List Held) (v : Version) → closed (bares l) v ≡ closed l v
unfolding closed
closed_bare l v = every_bare (closed_for v) l

code_bare : (l : List Held) (x : Edit) → edit_code (bares l) x ≡ edit_code l x
unfolding edit_code
code_bare l x = rw (has_bare l x.id.peer, peers_bare l, count_bare l x.id.peer, named_bare l x.context, closed_bare l x.context)

fits_bare : (b l : List Held) → edits_fit (bares b) (bares l) ≡ edits_fit b l
unfolding edits_fit
fits_bare b [] = refl
fits_bare b (x ∷ l) =
    ap₂ (λ (n : ℕ) (t : Bool). eqb n 0 && t) (code_bare b x.edit)
    (ap (λ (c : List Held). edits_fit c (bares l)) (sym (map-append bare b (x ∷ []))) ∙ fits_bare (b ++ (x ∷ [])) l)

same_bare : (h : ℕ) (e t u : List ℕ) → bares (held h e t) ≡ bares (held h e u)
unfolding held
same_bare zero e t u = refl
same_bare (suc h) e t u =
    ap (λ (l : List Held). record { edit = edit_in e; took = [] } ∷ l) (same_bare h (drop 256 e) (drop (took_in e * 16) t) (drop (took_in e * 16) u))

pub fit_any : (h : ℕ) (e t u : List ℕ) → edits_fit [] (held h e t) ≡ edits_fit [] (held h e u)
fit_any h e t u = sym (fits_bare [] (held h e t)) ∙ (ap (edits_fit []) (same_bare h e t u) ∙ fits_bare [] (held h e u))

-- nor does an edit's number
pub code_any : (h : ℕ) (e t u : List ℕ) (x : Edit) → edit_code (held h e t) x ≡ edit_code (held h e u) x
code_any h e t u x = sym (code_bare (held h e t) x) ∙ (ap (λ (l : List Held). edit_code l x) (same_bare h e t u) ∙ code_bare (held h e u) x)
