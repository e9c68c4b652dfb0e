-- The delta applier, on lists of units as real id (own id if none) and one-unit chunk, and its refusals: the definitions of crate apply.
unfoldable pub use Rattle.apply.specs.Apply.{item_of, items, new_unit, item_at, items_of, applied, entry_formed, lamport_fits, entry_ids, entry_known, used, item_formed, item_ids, item_single, apply_code, apply_of}
