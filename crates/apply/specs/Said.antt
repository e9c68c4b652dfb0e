-- The entries that lent columns say. Assumes nothing.
use Rattle.std.specs.Prelude.{ℕ, List}
use Rattle.span.specs.Units.{tab}
use Rattle.apply.specs.declared.columns.Columns.{Columns}
use Rattle.apply.specs.Apply.{Given}
use Rattle.apply.specs.Given.{given_at}

-- the entry in place i
abbrev pub entry_at : Columns → ℕ → Given
entry_at c = given_at c.kind.now c.a.now c.b.now c.peer.now c.counter.now c.lamport.now

-- all of them
abbrev pub said : Columns → List Given
said c = tab (entry_at c) 0 c.len
