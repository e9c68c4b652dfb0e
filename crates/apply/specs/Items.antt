-- Items in rows of 24 bytes: 0 peer (u64), 8 counter by its bits, 12 start, 16 end (u32), 20 spare, written 0. Assumes nothing.
use Rattle.std.specs.Prelude.{ℕ, ◌+◌, ◌*◌, ◌/◌, List, [], ◌∷◌, ◌++◌, length}
use Rattle.words.specs.Le.{bytes_of}
use Rattle.span.specs.Chunk.{chunk}
use Rattle.span.specs.Units.{tab}
use Rattle.store.specs.Row.{bits32, id_of, u64_at, u32_at}
use Rattle.apply.specs.declared.item.Item.{Item}

-- the item in row i
unfoldable pub item_in : List ℕ → ℕ → Item
item_in s i =
    record {
      id = id_of (u64_at s (i * 24)) (u32_at s (i * 24 + 8));
      content = chunk (u32_at s (i * 24 + 12)) (u32_at s (i * 24 + 16));
    }

-- the items of a buffer: as many as rows fit it
unfoldable pub items_in : List ℕ → List Item
items_in s = tab (item_in s) 0 (length s / 24)

-- an item's row, and the rows of a list
unfoldable pub item_bytes : Item → List ℕ
item_bytes x =
    bytes_of 8 x.id.peer
    ++ (bytes_of 4 (bits32 x.id.counter) ++ bytes_of 4 x.content.start ++ bytes_of 4 x.content.end ++ bytes_of 4 0)

unfoldable pub items_bytes : List Item → List ℕ
items_bytes [] = []
items_bytes (x ∷ l) = item_bytes x ++ items_bytes l
