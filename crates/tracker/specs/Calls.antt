-- Calls of a history's entries one after another on lent buffers, each outcome as its entry's contract has it, and demand 3 of them. The theorem is proofs/Demand3. Assumes nothing.
use Rattle.std.specs.Prelude.{ℕ, ◌≤◌, ◌≡◌, Bool, true, length}
use mathlib.Core.List.{List, [], ◌∷◌, map, Memᴰ}
use Rattle.span.specs.Units.{expand}
use Rattle.store.specs.Row.{bits32}
use Rattle.store.specs.Header.{room, spans_of}
use Rattle.units.specs.declared.diff.Entry.{Entry}
use Rattle.units.specs.Codes.{unless}
use Rattle.fugue.specs.Tree.{walk, sort_id}
use Rattle.history.specs.Edit.{Count, Version, Act, Insert, Delete, Edit, History}
use Rattle.history.specs.Checkout.{units_at}
use Rattle.history.specs.Arrive.{start}
use Rattle.history.specs.Tree.{tree_of}
use Rattle.history.specs.Codes.{stored, open_code, arrive_code, arrive_of, delta_code}
use Rattle.history.specs.Demand.{Limits, whole_of, no_real}
use Rattle.tracker.specs.declared.row.Head.{Head}
use Rattle.tracker.specs.declared.row.Does.{Does}
use Rattle.tracker.specs.declared.row.Does.TheVariants as Do
use Rattle.tracker.specs.Rows.{to_edit, target_room, history_in, is_history, EDIT_BYTES}
use Rattle.tracker.specs.Entries.{version_of, Leaves, arrive_number, arrived, checkout_number, checked_out}

-- ---------------------------------------------------------------- the lent buffers

pub record Lent : Type 0 where
  pub spans : List ℕ
  pub targets : List ℕ
  pub edits : List ℕ

-- the history that they say, and whether it is well formed
abbrev pub said : Lent → History
said a = history_in a.spans a.targets a.edits

abbrev pub is_well : Lent → Bool
is_well a = is_history a.spans a.targets a.edits

-- the two headers and the edits have their room
pub record Long (a : Lent) : Type 0 where
  pub spans : 72 ≤ length a.spans
  pub edits : EDIT_BYTES ≤ length a.edits

-- a lent slice keeps its length
pub record SameLengths (a b : Lent) : Type 0 where
  pub spans : length b.spans ≡ length a.spans
  pub targets : length b.targets ≡ length a.targets
  pub edits : length b.edits ≡ length a.edits

-- ---------------------------------------------------------------- one call: it finds a, answers r and leaves b

-- a history is opened with n units of placeholder (0 for none)
pub record Opens (n r : ℕ) (a b : Lent) : Type 0 where
  pub number : Long a → r ≡ open_code (room a.spans) n
  pub history : r ≡ 0 → said b ≡ stored (start n)
  pub well : r ≡ 0 → is_well b ≡ true
  pub lengths : SameLengths a b

-- what every other call leaves, by its number and its history afterwards
pub record Calls (code : ℕ) (after : History) (r : ℕ) (a b : Lent) : Type 0 where
  pub leaves : Leaves code after r a.spans a.targets a.edits b.spans b.targets b.edits
  pub lengths : SameLengths a b

-- an edit arrives
abbrev pub Arrives : Edit → ℕ → Lent → Lent → Type 0
Arrives x r a b = Calls (arrive_number a.spans a.targets a.edits x) (arrived a.spans a.targets a.edits x) r a b

-- the list is put at a version
abbrev pub ChecksOut : Version → ℕ → Lent → Lent → Type 0
ChecksOut v r a b = Calls (checkout_number a.spans a.targets a.edits v) (checked_out a.spans a.targets a.edits v) r a b

-- versions v and w are compared, into an output with the room of `out`: the list is put at v
abbrev pub Compares : List Entry → Version → Version → ℕ → Lent → Lent → Type 0
Compares out v w r a b = Calls (unless (is_well a) 15 (delta_code (room a.spans) (target_room a.targets) out (said a) v w)) (checked_out a.spans a.targets a.edits v) r a b

-- one of the three
pub data Call (r : ℕ) (a b : Lent) : Type 0 where
  Arrive : (x : Edit) → Arrives x r a b → Call r a b
  Checkout : (v : Version) → ChecksOut v r a b → Call r a b
  Delta : (out : List Entry) (v w : Version) → Compares out v w r a b → Call r a b

-- an edit and a version as they are handed over: what an edit has beside its context, and the two columns of a version
abbrev pub does_of : Act → Does
does_of (Insert lamport c) = Do.Insert lamport c
does_of (Delete n reversed start) = Do.Delete n reversed start

abbrev pub head_of : Edit → Head
head_of x = record { id = x.id; at = x.at; act = does_of x.act }

abbrev pub peers_of : Version → List ℕ
peers_of v = map (λ (k : Count). k.peer) v

abbrev pub counts_of : Version → List ℕ
counts_of v = map (λ (k : Count). bits32 k.many) v

-- the edit that the entry takes from them
abbrev pub handed : Edit → Edit
handed x = to_edit (head_of x) (version_of (peers_of x.context) (counts_of x.context))

-- ---------------------------------------------------------------- calls one after another

-- edits are handed over one after another, and so many numbers are answered
pub data Ran : List Edit → List ℕ → Lent → Lent → Type 0 where
  none : (a : Lent) → Ran [] [] a a
  next : (x : Edit) (es : List Edit) (r : ℕ) (rs : List ℕ) (a b c : Lent) → Arrives x r a b → Ran es rs b c → Ran (x ∷ es) (r ∷ rs) a c

-- the numbers of such a run on the definitions
unfoldable pub numbers : ℕ → ℕ → History → List Edit → List ℕ
numbers spans targets h [] = []
numbers spans targets h (x ∷ es) = arrive_code spans targets h x ∷ numbers spans targets (arrive_of spans targets h x).1 es

-- the buffers that calls can lead to from an opening with n units: any calls, taken or refused
pub data Reaches (n : ℕ) : Lent → Type 0 where
  by_open : (a b : Lent) → Opens n 0 a b → Reaches n b
  by_call : (r : ℕ) (a b : Lent) → Reaches n a → Call r a b → Reaches n b

-- ---------------------------------------------------------------- demand 3

-- a lane: buffers of its own, opened with n units, the edits handed over in an order of its own, and then a checkout
pub record Lane (n : ℕ) (fs : List Edit) (v : Version) : Type 0 where
  pub given : Lent
  pub fresh : Lent
  pub merged : Lent
  pub last : Lent
  pub opening : ℕ
  pub answers : List ℕ
  pub checking : ℕ
  pub opens : Opens n opening given fresh
  pub runs : Ran fs answers fresh merged
  pub checks : ChecksOut v checking merged last

-- its buffers have the room of the demand for a set of edits
pub record HasRoom (n : ℕ) (S : List Edit) (a : Lent) : Type 0 where
  pub long : Long a
  pub limits : Limits n (room a.spans) (target_room a.targets) S

-- what is promised of every lane with an arrival order of the set
pub record Promised (n : ℕ) (S fs : List Edit) (l : Lane n fs (whole_of S)) : Type 0 where
  -- the opening, every edit and the checkout are accepted
  pub opened : l.opening ≡ 0
  pub accepted : (r : ℕ) → Memᴰ r l.answers → r ≡ 0
  pub checked : l.checking ≡ 0
  -- the buffers hold a well formed history
  pub well : is_well l.last ≡ true
  -- its units are those of the tree built from the set alone, in its order, real ids of placeholder units excepted
  pub same : map no_real (expand (spans_of l.last.spans)) ≡ map no_real (units_at (whole_of S) (tree_of n S))
  -- which is the walk of the tree
  pub walked : units_at (whole_of S) (tree_of n S) ≡ walk (sort_id (units_at (whole_of S) (tree_of n S)))
