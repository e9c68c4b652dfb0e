-- Demand 3 in its own words: a set of edits, an arrival order of it, and what is promised of every such order. The theorem is proofs/Demand. Assumes nothing.
use Rattle.std.specs.Prelude.{ℕ, suc, ◌+◌, ◌<◌, ◌≤◌, ◌≡◌, Bool, true, ◌&&◌, pos, length, if◌then◌else◌, nat_lt, ◌==◌, Some, None}
use mathlib.Core.List.{List, [], ◌∷◌, map, Memᴰ}
use Rattle.std.specs.Int.Signed.{le_z}
use Rattle.span.specs.Maybe.{OptId}
use Rattle.span.specs.declared.span.FugueSpan.{FugueSpan}
use Rattle.span.specs.Ids.{UNKNOWN_PEER, room_opt}
use Rattle.span.specs.Units.{expand}
use Rattle.units.specs.Limits.{UNITS, PEERS, EDITS}
use Rattle.units.specs.Lists.{every, some}
use Rattle.units.specs.Change.{with_state}
use Rattle.fugue.specs.Tree.{walk, sort_id}
use Rattle.history.specs.Edit.{Count, Version, Edit, size, History}
use Rattle.history.specs.Version.{number, count_of, below, rising, closed_for}
use Rattle.history.specs.Checkout.{units_at}
use Rattle.history.specs.Arrive.{start}
use Rattle.history.specs.Tree.{tree_arrive, tree_of}
use Rattle.history.specs.Valid.{act_formed, act_ids, act_length}
use Rattle.history.specs.Codes.{stored, open_code, inside, made, arrive_code, arrive_of, checkout_code, checkout_of}

-- ---------------------------------------------------------------- a set of edits

abbrev pub InSet : Edit → List Edit → Type 0
InSet e S = Memᴰ e S

abbrev pub first_of : Edit → ℕ
first_of e = number e.id.counter

-- the edit uses the id p.i
pub record Uses (e : Edit) (p i : ℕ) : Type 0 where
  pub peer : e.id.peer ≡ p
  pub from : first_of e ≤ i
  pub to : i < first_of e + size e

-- p.i is an id of the set
pub record IdOf (S : List Edit) (p i : ℕ) : Type 0 where
  pub edit : Edit
  pub is_in : InSet edit S
  pub uses : Uses edit p i

-- no entry twice
abbrev pub Once : List Edit → Type 0
Once [] = Unit {0}
Once (e ∷ S) = ((f : Edit) → InSet f S → f ≡ e → ⊥) × Once S

-- counts are at least 1
abbrev pub counted : Version → Bool
counted v = every (λ (k : Count). le_z (pos 1) k.many) v

pub record WellFormedSet (S : List Edit) : Type 0 where
  -- every edit is well formed: refusals 1 and 2 find nothing
  pub formed : (e : Edit) → InSet e S → act_formed e.act ≡ true
  pub ids : (e : Edit) → InSet e S → room_opt (Some e.id) (size e) && act_ids e.act ≡ true
  -- each office's ids run on from 0, none twice
  pub run_on : (e : Edit) → InSet e S → (i : ℕ) → i < first_of e → IdOf S e.id.peer i
  pub once : (e f : Edit) → InSet e S → InSet f S → (p i : ℕ) → Uses e p i → Uses f p i → e ≡ f
  pub no_twice : Once S
  -- each context has rising peers and counts of at least 1, lies within the set, is causally closed, cuts no delete, and holds all that office's earlier edits
  pub pairs : (e : Edit) → InSet e S → rising e.context && counted e.context ≡ true
  pub within : (e : Edit) → InSet e S → (p i : ℕ) → i < count_of e.context p → IdOf S p i
  pub closed : (e f : Edit) → InSet e S → InSet f S → closed_for e.context f ≡ true
  pub earlier : (e : Edit) → InSet e S → first_of e ≤ count_of e.context e.id.peer

-- each position, with a delete's length, is inside the list visible at its context: edit by edit in the set's own order, as the tree alone has it
-- (so it is in the finished tree too: `inside-at-context` in proofs/OnUnits)
unfoldable pub Inside : History → List Edit → Type 0
Inside h [] = Unit {0}
Inside h (e ∷ es) = (inside e.act e.at (units_at e.context h) ≡ true) × Inside (tree_arrive h e) es

-- ---------------------------------------------------------------- 01's limits, and room

-- the offices with edits
unfoldable pub peers : List Edit → ℕ
peers [] = 0
peers (e ∷ S) = if some (λ (f : Edit). (f.id.peer == e.id.peer)) S then peers S else suc (peers S)

-- what the edits add up to
unfoldable pub sum : (Edit → ℕ) → List Edit → ℕ
sum f [] = 0
sum f (e ∷ S) = f e + sum f S

-- n units of placeholder; room for a span per unit and a target range per unit of each delete
pub record Limits (n spans targets : ℕ) (S : List Edit) : Type 0 where
  pub edits : length S ≤ EDITS
  pub offices : peers S ≤ PEERS
  pub units : n + sum (λ (e : Edit). made e.act) S ≤ UNITS
  pub span_room : n + sum (λ (e : Edit). made e.act) S ≤ spans
  pub target_room : sum (λ (e : Edit). act_length e.act) S ≤ targets

-- ---------------------------------------------------------------- an arrival order

-- every edit comes after each edit of the set that its context covers, even in part (done: those before it)
unfoldable pub After : List Edit → List Edit → List Edit → Type 0
After S done [] = Unit {0}
After S done (e ∷ es) = ((f : Edit) → InSet f S → below e.context f.id ≡ true → InSet f done) × After S (e ∷ done) es

pub record ArrivalOrder (S fs : List Edit) : Type 0 where
  pub all : (e : Edit) → InSet e S → InSet e fs
  pub only : (e : Edit) → InSet e fs → InSet e S
  pub no_twice : Once fs
  pub after : After S [] fs

-- ---------------------------------------------------------------- what is promised

-- accepted throughout, and the history that is left
unfoldable pub Accepted : ℕ → ℕ → History → List Edit → Type 0
Accepted spans targets h [] = Unit {0}
Accepted spans targets h (e ∷ es) = (arrive_code spans targets h e ≡ 0) × Accepted spans targets (arrive_of spans targets h e).1 es

unfoldable pub arrive_all : ℕ → ℕ → History → List Edit → History
arrive_all spans targets h [] = h
arrive_all spans targets h (e ∷ es) = arrive_all spans targets (arrive_of spans targets h e).1 es

-- the version of the whole set: each office with as many counters as its edits use, peers rising
unfoldable pub add_count : ℕ → ℕ → Version → Version
add_count p m [] = record { peer = p; many = pos m } ∷ []
add_count p m (k ∷ v) =
    if nat_lt p k.peer then record { peer = p; many = pos m } ∷ (k ∷ v)
    else (if p == k.peer then record { peer = p; many = pos (m + number k.many) } ∷ v else k ∷ add_count p m v)

unfoldable pub whole_of : List Edit → Version
whole_of [] = []
whole_of (e ∷ S) = add_count e.id.peer (size e) (whole_of S)

-- real ids of placeholder units are excepted
unfoldable pub real_plain : FugueSpan → OptId
real_plain u = if u.id.peer == UNKNOWN_PEER then None else u.real_id

unfoldable pub no_real : FugueSpan → FugueSpan
no_real u = with_state u u.status u.diff_status (real_plain u)

-- what every arrival order fs of the set comes to
pub record Promise (n spans targets : ℕ) (S fs : List Edit) : Type 0 where
  -- the start is opened
  pub opened : open_code spans n ≡ 0
  -- the order is accepted throughout
  pub accepted : Accepted spans targets (stored (start n)) fs
  -- checked out afterwards at the whole set
  pub checked : checkout_code spans targets (arrive_all spans targets (stored (start n)) fs) (whole_of S) ≡ 0
  -- it gives the units of the tree built from the set alone, in its order
  pub same : map no_real (expand (checkout_of spans targets (arrive_all spans targets (stored (start n)) fs) (whole_of S)).1.list) ≡ map no_real (units_at (whole_of S) (tree_of n S))
  -- which is the walk of the tree
  pub walked : units_at (whole_of S) (tree_of n S) ≡ walk (sort_id (units_at (whole_of S) (tree_of n S)))
