-- What an edit is, and what a history holds, as 01 states them under "History". Assumes nothing.
use Rattle.std.specs.Prelude.{ℕ, Bool, List, ℤ}
use Rattle.span.specs.declared.chunk.RichtextChunk.{RichtextChunk}
use Rattle.span.specs.declared.ids.Id.{Id}
use Rattle.span.specs.declared.span.FugueSpan.{FugueSpan}
use Rattle.span.specs.Chunk.{len_of}

-- a pair of a context or version: a peer, and how many of its counters
pub record Count : Type 0 where
  pub peer : ℕ
  pub many : ℤ

abbrev pub Version : Type 0
Version = List Count

-- an insert's lamport and chunk; a delete's length, whether it is reversed, and its target start id
pub data Act : Type 0 where
  Insert : ℕ → RichtextChunk → Act
  Delete : ℕ → Bool → Id → Act

-- an edit: its first id, a position in the list visible at its context, what it does
pub record Edit : Type 0 where
  pub id : Id
  pub at : ℕ
  pub act : Act
  pub context : Version

-- an edit uses as many counters as it has units, deletes too
unfoldable pub size_of : Act → ℕ
size_of (Insert lamport c) = len_of c
size_of (Delete len reversed start) = len

abbrev pub size : Edit → ℕ
size e = size_of e.act

-- a range of ids
pub record Range : Type 0 where
  pub id : Id
  pub len : ℕ

-- an edit that has arrived, and what it took: a delete's targets in list order as id ranges joined while consecutive, nothing for an insert
pub record Held : Type 0 where
  pub edit : Edit
  pub took : List Range

-- a history: the units of its placeholder (0 for none), its list, and its edits in the order of their arrival. The list is of spans in a store
-- and of units where its meaning is stated.
pub record History : Type 0 where
  pub placeholder : ℕ
  pub list : List FugueSpan
  pub held : List Held
