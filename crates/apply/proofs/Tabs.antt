-- Tabulated lists as loops read them, and items as bytes.
use Prim.Native.Nat.{ℕ, zero, suc, ◌+◌, ◌-◌, ◌*◌, ◌/◌, ◌<◌, ◌≤◌}
use mathlib.Core.Path.{◌≡◌, refl, sym, ap, ap₂, ◌∙◌}
use mathlib.Core.List.{List, [], ◌∷◌, ◌++◌, map, append_assoc}
use native.Mathlib.Omega.{arith}
use native.Mathlib.Nat.{zero-add}
use lib.ListN.{length, take, drop, length-append}
use Rattle.words.specs.Le.{bytes_of, put}
use Rattle.words.proofs.Puts.{put-put, put-nil, length-put}
use Rattle.span.specs.declared.span.FugueSpan.{FugueSpan}
use Rattle.span.specs.Span.{len_span, part_span}
use Rattle.span.specs.Units.{tab, unit_at, units_of}
use Rattle.span.proofs.ListLaws.{take_tab, drop-tab}
use Rattle.apply.specs.declared.item.Item.{Item}
use Rattle.apply.specs.Apply.{item_of}
use Rattle.apply.specs.Items.{item_in, items_in, item_bytes, items_bytes}

-- ---- what is left of a tabulated list from i on

module _ {A : Type 0} (f : ℕ → A) (n i : ℕ) where
  pub tab_turn : i < n → tab f i (n - i) ≡ f i ∷ tab f (i + 1) (n - (i + 1))
  unfolding tab
  tab_turn h =
      ap (tab f i) (let e : n - i ≡ suc (n - (i + 1)) = omega arith in e)
      ∙ ap (λ (j : ℕ). f i ∷ tab f j (n - (i + 1))) (let e : suc i ≡ i + 1 = omega arith in e)

  pub tab_none : n ≤ i → tab f i (n - i) ≡ []
  unfolding tab
  tab_none h = ap (tab f i) (let e : n - i ≡ 0 = omega arith in e)

pub tab-length : {A : Type 0} (f : ℕ → A) (i n : ℕ) → length (tab f i n) ≡ n
unfolding tab
tab-length f i zero = refl
tab-length f i (suc n) = ap suc (tab-length f (suc i) n)

-- ---- items as bytes

pub length_item : (x : Item) → length (item_bytes x) ≡ 24
unfolding item_bytes bytes_of
length_item x = refl

pub length_items : (l : List Item) → length (items_bytes l) ≡ length l * 24
unfolding items_bytes
length_items [] = refl
length_items (x ∷ l) = length-append (item_bytes x) (items_bytes l) ∙ (ap₂ ◌+◌ (length_item x) (length_items l) ∙ (let e : 24 + length l * 24 ≡ suc (length l) * 24 = omega arith in e))

pub items_bytes-append : (l m : List Item) → items_bytes (l ++ m) ≡ items_bytes l ++ items_bytes m
unfolding items_bytes
items_bytes-append [] m = refl
items_bytes-append (x ∷ l) m = ap (λ (b : List ℕ). item_bytes x ++ b) (items_bytes-append l m) ∙ sym (append_assoc (item_bytes x) (items_bytes l) (items_bytes m))

-- ---- rows of items that are written one after the other: those of `rest` are left, from row k on

pub record Writing (all rest : List Item) (at k : ℕ) (s0 s : List ℕ) : Type 0 where
  pub long : length s ≡ length s0
  pub room : (k + length rest) * 24 ≤ length s0
  pub is : put (k * 24) (items_bytes rest) s ≡ put (at * 24) (items_bytes all) s0

pub write_start : (all : List Item) (k : ℕ) (s : List ℕ) → (k + length all) * 24 ≤ length s → Writing all all k k s s
write_start all k s h = record { long = refl; room = h; is = refl }

module _ (all rest : List Item) (at k : ℕ) (s0 s : List ℕ) (v : Writing all rest at k s0 s) where
  pub write_end : rest ≡ [] → s ≡ put (at * 24) (items_bytes all) s0
  unfolding items_bytes
  write_end e = sym (put-nil s (k * 24)) ∙ (ap (λ (l : List Item). put (k * 24) (items_bytes l) s) (sym e) ∙ v.is)

  pub write_room : (x : Item) (left : List Item) → rest ≡ x ∷ left → k * 24 + 24 ≤ length s
  write_room x left e = let z : length rest ≡ suc (length left) = ap length e in omega (arith, z, v.room, v.long)

  -- a list of items in one go
  pub write_many : (xs left : List Item) → rest ≡ xs ++ left → (t : List ℕ) → length t ≡ length s → t ≡ put (k * 24) (items_bytes xs) s → (j : ℕ) → j ≡ k + length xs → Writing all left at j s0 t
  write_many xs left e t m q j p =
      let z : length rest ≡ length xs + length left = ap length e ∙ length-append xs left in
      let w : j * 24 ≡ k * 24 + length (items_bytes xs) = omega (arith, p, length_items xs) in
      let h : k * 24 ≤ length s = omega (arith, z, v.room, v.long) in
      record {
        long = m ∙ v.long;
        room = omega (arith, z, v.room, p);
        is =
            ap₂ (λ (n : ℕ) (u : List ℕ). put n (items_bytes left) u) w q
            ∙ (put-put s (items_bytes xs) (k * 24) h (items_bytes left)
            ∙ (ap (λ (b : List ℕ). put (k * 24) b s) (sym (items_bytes-append xs left)) ∙ (ap (λ (l : List Item). put (k * 24) (items_bytes l) s) (sym e) ∙ v.is)));
      }

  pub write_one : (x : Item) (left : List Item) → rest ≡ x ∷ left → (t : List ℕ) → length t ≡ length s → t ≡ put (k * 24) (item_bytes x) s → Writing all left at (k + 1) s0 t
  unfolding items_bytes
  write_one x left e t m q = write_many (x ∷ []) left e t m (q ∙ ap (λ (b : List ℕ). put (k * 24) b s) (sym (nil_end (item_bytes x)))) (k + 1) refl
    where
      nil_end : (b : List ℕ) → b ++ [] ≡ b
      nil_end [] = refl
      nil_end (y ∷ b) = ap (λ (l : List ℕ). y ∷ l) (nil_end b)

-- ---- the items that loops write

-- n items of a buffer from row `at` on
pub items_part : (s : List ℕ) (at n : ℕ) → (at + n) * 24 ≤ length s → take n (drop at (items_in s)) ≡ tab (item_in s) at n
unfolding items_in
items_part s at n h =
    let e : length s / 24 ≡ at + (length s / 24 - at) = omega arith in
    ap (λ (m : ℕ). take n (drop at (tab (item_in s) 0 m))) e
    ∙ (ap (take n) (drop-tab (item_in s) 0 at (length s / 24 - at) ∙ ap (λ (m : ℕ). tab (item_in s) m (length s / 24 - at)) (zero-add at))
    ∙ take_tab (item_in s) at n (length s / 24 - at) (omega arith))

-- the units of a span
pub items_units : (x : FugueSpan) (i n : ℕ) → map item_of (tab (unit_at x) i n) ≡ tab (λ (k : ℕ). item_of (unit_at x k)) i n
unfolding tab
items_units x i zero = refl
items_units x i (suc n) = ap (λ (l : List Item). item_of (unit_at x i) ∷ l) (items_units x (suc i) n)

-- ---- a loop that writes the items f at, f (at + 1) and so on, n of them, from row k on: j are written

pub record Copy (f : ℕ → Item) (at n k j : ℕ) (s0 s : List ℕ) : Type 0 where
  pub low : j ≤ n
  pub is : Writing (tab f at n) (tab f (at + j) (n - j)) k (k + j) s0 s

module _ (f : ℕ → Item) (at n k : ℕ) where
  pub copy_start : (s : List ℕ) → (k + n) * 24 ≤ length s → Copy f at n k 0 s s
  copy_start s h =
      let e : at + 0 ≡ at = omega arith in
      let z : n - 0 ≡ n = omega arith in
      let w : k + 0 ≡ k = omega arith in
      record { low = omega arith; is = rw (e, z, w) (write_start (tab f at n) k s (rw (tab-length f at n) h)) }

  module _ (j : ℕ) (s0 s : List ℕ) (v : Copy f at n k j s0 s) where
    pub copy_end : n ≤ j → s ≡ put (k * 24) (items_bytes (tab f at n)) s0
    unfolding tab
    copy_end h = write_end (tab f at n) (tab f (at + j) (n - j)) k (k + j) s0 s v.is (ap (tab f (at + j)) (let e : n - j ≡ 0 = omega arith in e))

    module _ (h : j < n) where
      turn : tab f (at + j) (n - j) ≡ f (at + j) ∷ tab f (at + (j + 1)) (n - (j + 1))
      unfolding tab
      turn =
          ap (tab f (at + j)) (let e : n - j ≡ suc (n - (j + 1)) = omega arith in e)
          ∙ ap (λ (i : ℕ). f (at + j) ∷ tab f i (n - (j + 1))) (let e : suc (at + j) ≡ at + (j + 1) = omega arith in e)

      pub copy_room : (k + j) * 24 + 24 ≤ length s
      copy_room = write_room (tab f at n) (tab f (at + j) (n - j)) k (k + j) s0 s v.is (f (at + j)) (tab f (at + (j + 1)) (n - (j + 1))) turn

      pub copy_next : (x : Item) → x ≡ f (at + j) → (t : List ℕ) → t ≡ put ((k + j) * 24) (item_bytes x) s → Copy f at n k (j + 1) s0 t
      copy_next x e t q =
          let r = copy_room in
          let l = length_item x in
          let m : length t ≡ length s = ap length q ∙ length-put s (item_bytes x) ((k + j) * 24) (omega arith) (omega arith) in
          let w : k + (j + 1) ≡ k + j + 1 = omega arith in
          record {
            low = omega arith;
            is = rw w (write_one (tab f at n) (tab f (at + j) (n - j)) k (k + j) s0 s v.is x (tab f (at + (j + 1)) (n - (j + 1))) (turn ∙ ap (λ (y : Item). y ∷ tab f (at + (j + 1)) (n - (j + 1))) (sym e)) t m q);
          }

-- a unit as the loop over a span reads it, and all of them
pub unit_zero : (x : FugueSpan) (j : ℕ) → item_of (part_span x j (j + 1)) ≡ item_of (unit_at x (0 + j))
unit_zero x j =
    let e : j + 1 ≡ suc j = omega arith in
    let z : j ≡ 0 + j = omega arith in
    ap (λ (m : ℕ). item_of (part_span x j m)) e ∙ ap (λ (m : ℕ). item_of (unit_at x m)) z

pub units_items : (x : FugueSpan) (len : ℕ) → len ≡ len_span x → tab (λ (i : ℕ). item_of (unit_at x i)) 0 len ≡ map item_of (units_of x)
unfolding units_of
units_items x len e = ap (tab (λ (i : ℕ). item_of (unit_at x i)) 0) e ∙ sym (items_units x 0 (len_span x))

-- all of a tabulated list are left at the start
pub tab_all : {A : Type 0} (f : ℕ → A) (n : ℕ) → tab f 0 n ≡ tab f 0 (n - 0)
tab_all f n = ap (tab f 0) (let e : n ≡ n - 0 = omega arith in e)
