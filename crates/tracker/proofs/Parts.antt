-- A pair and a target range at a place of a buffer, as the code reads them.
use Prim.Native.Nat.{ℕ, ◌+◌}
use mathlib.Core.Path.{◌≡◌}
use mathlib.Core.List.{List}
use lib.ListN.{drop}
use lib.Seq.{drop-drop}
use mir.Syntax.{w32}
use mir.Val.{to_z}
use Rattle.store.specs.Row.{id_of, u64_at, u32_at}
use Rattle.history.specs.Edit.{Count}
use Rattle.history.specs.Checkout.{range}
use Rattle.tracker.specs.Rows.{pair_in, range_in}

pub pair_at : (v : List ℕ) (b : ℕ) → ◌≡◌ {A = Count} (record { peer = u64_at v b; many = to_z w32 (u32_at v (b + 8)) }) (pair_in (drop b v))
unfolding pair_in
pair_at v b = rw (drop-drop 8 b v)

pub range_at : (t : List ℕ) (b : ℕ) → range (id_of (u64_at t b) (u32_at t (b + 8))) (u32_at t (b + 12)) ≡ range_in (drop b t)
unfolding range_in
range_at t b = rw (drop-drop 8 b t, drop-drop 12 b t)
