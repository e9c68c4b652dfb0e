-- the entry update, step by step: what each step may ask, and what each way out leaves
use Prim.Native.Nat.{ℕ, ◌+◌, ◌-◌, ◌*◌, ◌<◌, ◌≤◌}
use mathlib.Core.Path.{◌≡◌, refl, sym, ap, ap₂, subst, ◌∙◌}
use mathlib.Core.Bool.{Bool, true, false, true≢false}
use mathlib.Core.List.{List}
use mathlib.Core.Logic.{◌⊎◌, inl, inr}
use native.Mathlib.Omega.{arith}
use lib.Dec.{leb}
use lib.IntN.{ℤ, pos, negsuc, nat_abs}
use lib.ListN.{length, drop}
use lib.Signed.{le_z, lt_z}
use borrow.Author.Tests.{le-leb, lt-leb, leb-true, le-ltb}
use Rattle.words.specs.Le.{bytes_of, put}
use Rattle.span.specs.Maybe.{Counter}
use Rattle.std.specs.Prelude.{Some, None}
use Rattle.span.specs.declared.span.FugueSpan.{FugueSpan}
use Rattle.span.specs.Status.{counter_of}
use Rattle.span.specs.Units.{expand, join}
use Rattle.span.proofs.Unique.{join-expand}
use Rattle.store.specs.Row.{rows}
use Rattle.store.proofs.Laws.{length-rows}
use Rattle.rope.specs.declared.change.Update.{Update}
use Rattle.units.specs.Limits.{fits}
use Rattle.units.specs.Place.{Distinct}
use Rattle.units.specs.Store.{count, room, spans_of, well_formed, is_state}
use Rattle.units.specs.declared.change.SetFuture.{SetFuture}
use Rattle.units.specs.Codes.{unless, kept, holds_all, counts_fit, update_code, update_of}
use Rattle.rope.specs.Spans.{AllOk, Stored}
use Rattle.rope.specs.Applies.{Updates}
use Rattle.rope.specs.Edits.{WrittenIn, EditedIn}
use Rattle.rope.specs.Updated.{update_number, update_list, updated_units, update_rest, Rewrites}
use Rattle.rope.proofs.WellFormed.{formed_of}
use Rattle.rope.proofs.States.{part, part_rest}
use Rattle.rope.proofs.Editing.{back_in, refused_in, done_in, edited_in}
use Rattle.rope.proofs.Entering.{state_head, state_stored, state_formed, state_few, state_fits, rows_are, lent, lent_long, lent-rows, lent_back}
use Rattle.rope.proofs.Queue.{lt-or}
use Rattle.rope.proofs.Keeps.{units_ok}
use Rattle.rope.proofs.Ranges.{empty_update, below_zero}

-- ---- the refusals

module _ (most : ℕ) (l : List FugueSpan) (u : Update) where
  abbrev new : List FugueSpan
  new = join (updated_units u (expand l))

  abbrev held : Bool
  held = holds_all u.peer (pos u.from) (pos u.to) (expand l)

  abbrev counts : Bool
  counts = counts_fit u.peer (pos u.from) (pos u.to) u.change u.diff (expand l)

  rest_by : (a b c : Bool) → held ≡ a → leb (length new) most ≡ b → counts ≡ c → unless a 6 (unless b 10 (unless c 11 0)) ≡ update_rest most l u
  unfolding update_rest fits
  rest_by a b c p q r = rw (p, q, r)

  pub rest_held : held ≡ false → 6 ≡ update_rest most l u
  rest_held p = rest_by false _ _ p refl refl

  module _ (p : held ≡ true) where
    pub rest_full : most < length new → 10 ≡ update_rest most l u
    rest_full h = rest_by true false _ p (lt-leb (length new) most h) refl

    module _ (h : length new ≤ most) where
      pub rest_counts : counts ≡ false → 11 ≡ update_rest most l u
      rest_counts e = rest_by true true false p (le-leb (length new) most h) e

      pub rest_none : counts ≡ true → 0 ≡ update_rest most l u
      rest_none e = rest_by true true true p (le-leb (length new) most h) e

  pub record Free : Type 0 where
    pub fit : length new ≤ most
    pub times : counts ≡ true

  pub free_of : update_rest most l u ≡ 0 → Free
  free_of z = go held (leb (length new) most) counts refl refl refl (rest_by held (leb (length new) most) counts refl refl refl ∙ z)
    where
      go : (a b c : Bool) → held ≡ a → leb (length new) most ≡ b → counts ≡ c → unless a 6 (unless b 10 (unless c 11 0)) ≡ 0 → Free
      go false b c p q r z = absurd (omega arith)
      go true false c p q r z = absurd (omega arith)
      go true true false p q r z = absurd (omega arith)
      go true true true p q r z = record { fit = leb-true (length new) most q; times = r }

-- the whole number, of some counters in a well formed list
code_rest : (most : ℕ) (l : List FugueSpan) (u : Update) → well_formed l ≡ true → u.from < u.to → update_code most l u.peer (pos u.from) (pos u.to) u.set u.change u.diff ≡ update_rest most l u
unfolding update_code update_rest
code_rest most l u w h = rw (w, lt-leb u.to u.from h)

module _ (most : ℕ) (l : List FugueSpan) (p : ℕ) (a b : ℤ) (f : SetFuture) (k : ℤ) (diff : Bool) (w : well_formed l ≡ true) where
  code_empty : le_z b a ≡ true → update_code most l p a b f k diff ≡ 0
  unfolding update_code
  code_empty h = rw (w, h)

  code_held : le_z b a ≡ false → holds_all p a b (expand l) ≡ false → update_code most l p a b f k diff ≡ 6
  unfolding update_code
  code_held h e = rw (w, h, e)

-- ---- what may be asked

pub asks_of : (n : ℕ) (u : Update) (s : List ℕ) → Stored n s → n ≤ 65536 → u.from ≤ u.to → (n * 72 ≤ length s) × AllOk (rows n s) × (n ≤ 65536) × (u.from ≤ u.to)
asks_of n u s w few order = (w.long, (formed_of (rows n s) w.formed).each, few, order)

-- ---- the rows of a store, in the room that is lent, which ends at e

module _ (u : Update) (n : ℕ) (s : List ℕ) (w : Rewrites u n s) (e : ℕ) (ee : e ≡ 72 + room s * 72) where
  abbrev lend : List ℕ
  lend = lent s w.head e ee

  same : rows n lend ≡ rows n (drop 72 s)
  same = lent-rows s w.head e ee n w.fits

  pub rewrites_asks : Updates n u lend
  rewrites_asks =
      let l = lent_long s w.head e ee in
      let g = formed_of (rows n (drop 72 s)) w.stored.formed in
      record {
        long = omega (arith, l, ee, w.fits);
        each = subst AllOk (sym same) g.each;
        distinct = subst (λ (r : List FugueSpan). Distinct (expand r)) (sym same) g.distinct;
        order = w.order;
        counts = subst (λ (r : List FugueSpan). counts_fit u.peer (pos u.from) (pos u.to) u.change u.diff (expand r) ≡ true) (sym same) w.counts;
        room = (let a = subst (λ (r : List FugueSpan). length (join (updated_units u (expand r))) ≤ room s) (sym same) w.after in omega (arith, a, l, ee));
      }

  pub rewrites_done : (q t : List ℕ) (k m : ℕ) → length q ≡ length lend → rows k q ≡ join (updated_units u (expand (rows n lend))) → m ≡ k → t ≡ put 0 (bytes_of 8 m) (back_in s q (e - 72) w.head) → WrittenIn (join (updated_units u (expand (rows n (drop 72 s))))) s t
  rewrites_done q t k m len f em et =
      let g : rows k q ≡ join (updated_units u (expand (rows n (drop 72 s)))) = f ∙ ap (λ (r : List FugueSpan). join (updated_units u (expand r))) same in
      let z : k ≡ length (join (updated_units u (expand (rows n (drop 72 s))))) = sym (length-rows k q) ∙ ap length g in
      lent_back s w.head e ee q t m (join (updated_units u (expand (rows n (drop 72 s))))) len (omega (arith, em, z, w.after)) et (ap (λ (a : ℕ). rows a q) em ∙ g)

-- ---- update_some

module _ (s : List ℕ) (u : Update) (st : is_state s ≡ true) (some : u.from < u.to) (n : ℕ) (en : n ≡ count s) (most : ℕ) (em : most ≡ room s) where
  abbrev code : ℕ
  code = update_code (room s) (spans_of s) u.peer (pos u.from) (pos u.to) u.set u.change u.diff

  abbrev list : List FugueSpan
  list = update_list s u.peer (pos u.from) (pos u.to) u.set u.change u.diff

  pub some_asks : Stored n (part s) × (n ≤ 65536) × (u.from ≤ u.to)
  some_asks = (state_stored s st n en, state_few s st n en, omega (arith, some))

  code_is : code ≡ update_rest most (rows n (part s)) u
  code_is =
      code_rest (room s) (spans_of s) u (state_formed s st n en) some ∙
      ap₂ (λ (a : ℕ) (l : List FugueSpan). update_rest a l u) (sym em) (sym (rows_are s st n en))

  module _ (k : ℕ) (ek : k ≡ update_rest most (rows n (part s)) u) where
    pub some_refused : (k ≡ 0 → ⊥) → EditedIn code list k s s
    some_refused z = refused_in code list k s (ek ∙ sym code_is) z

    module _ (z : k ≡ 0) where
      free : Free most (rows n (part s)) u
      free = free_of most (rows n (part s)) u (sym ek ∙ z)

      pub some_rewrites : Rewrites u n s
      some_rewrites =
          record {
            head = state_head s st;
            stored = subst (Stored n) (part_rest s) (state_stored s st n en);
            fits = state_fits s st n en;
            order = omega (arith, some);
            counts = subst (λ (b : List ℕ). counts_fit u.peer (pos u.from) (pos u.to) u.change u.diff (expand (rows n b)) ≡ true) (part_rest s) free.times;
            after = (let a = subst (λ (b : List ℕ). length (join (updated_units u (expand (rows n b)))) ≤ most) (part_rest s) free.fit in omega (arith, a, em));
          }

      pub some_done : (t : List ℕ) → WrittenIn (join (updated_units u (expand (rows n (drop 72 s))))) s t → EditedIn code list 0 s t
      some_done t w =
          done_in code list 0 s t refl (code_is ∙ (sym ek ∙ z))
          (subst (λ (l : List FugueSpan). WrittenIn l s t) (ap (λ (b : List ℕ). join (updated_units u (expand (rows n b)))) (sym (part_rest s)) ∙ ap (λ (l : List FugueSpan). join (updated_units u (expand l))) (rows_are s st n en)) w)

-- ---- update

-- a counter above one that is not below zero is not either
counter_at : (a : ℤ) (x : ℕ) → Some x ≡ counter_of a → a ≡ pos x
counter_at (pos n) x e = ap pos (sym (ap value e))
  where
    value : Counter → ℕ
    value None = 0
    value (Some k) = k
counter_at (negsuc n) x e = absurd (true≢false (ap at e))
  where
    at : Counter → Bool
    at None = false
    at (Some k) = true

past_at : (b : ℤ) (x : ℕ) → le_z b (pos x) ≡ false → (pos (nat_abs b) ≡ b) × (x < nat_abs b)
past_at (pos y) x h = (refl, go (lt-or x y))
  where
    go : (x < y) ⊎ (y ≤ x) → x < y
    go (inl k) = k
    go (inr k) = absurd (true≢false (sym (le-leb y x k) ∙ h))
past_at (negsuc y) x h = absurd (true≢false h)

module _ (s : List ℕ) (p : ℕ) (a b : ℤ) (f : SetFuture) (k : ℤ) (diff : Bool) where
  abbrev number : ℕ
  number = update_number s p a b f k diff

  abbrev left : List FugueSpan
  left = update_list s p a b f k diff

  number_none : is_state s ≡ false → 15 ≡ number
  unfolding update_number
  number_none e = sym (ap (λ (t : Bool). unless t 15 (update_code (room s) (spans_of s) p a b f k diff)) e)

  pub number_state : is_state s ≡ true → update_code (room s) (spans_of s) p a b f k diff ≡ number
  unfolding update_number
  number_state e = sym (ap (λ (t : Bool). unless t 15 (update_code (room s) (spans_of s) p a b f k diff)) e)

  pub update_none : is_state s ≡ false → EditedIn number left 15 s s
  update_none e = refused_in number left 15 s (number_none e) (λ z. omega (arith, z))

  module _ (st : is_state s ≡ true) where
    formed : well_formed (spans_of s) ≡ true
    formed = state_formed s st (count s) refl

    pub update_empty : le_z b a ≡ true → EditedIn number left 0 s s
    update_empty h =
        let same : left ≡ spans_of s = ap join (empty_update p a b f k diff h (expand (spans_of s))) ∙ join-expand (spans_of s) (formed_of (spans_of s) formed).joined in
        done_in number left 0 s s refl (sym (number_state st) ∙ code_empty (room s) (spans_of s) p a b f k diff formed h)
        (record { written = record { list = sym same; head = refl }; past = refl })

    module _ (h : le_z b a ≡ false) where
      pub update_below : None ≡ counter_of a → EditedIn number left 6 s s
      update_below n =
          let e = below_zero p a b (expand (spans_of s)) n h (units_ok (spans_of s) formed).each (formed_of (spans_of s) formed).distinct in
          refused_in number left 6 s (sym (code_held (room s) (spans_of s) p a b f k diff formed h e) ∙ number_state st) (λ z. omega (arith, z))

      module _ (x : ℕ) (e : Some x ≡ counter_of a) where
        ends : (pos (nat_abs b) ≡ b) × (x < nat_abs b)
        ends = past_at b x (ap (le_z b) (sym (counter_at a x e)) ∙ h)

        pub update_natural : lt_z b (pos 0) ≡ false
        update_natural = ap (λ (z : ℤ). lt_z z (pos 0)) (sym ends.0) ∙ le-ltb (nat_abs b) 0 (omega arith)

        pub update_some : x < nat_abs b
        update_some = ends.1

        pub update_done : (r : ℕ) (t : List ℕ) → EditedIn (update_code (room s) (spans_of s) p (pos x) (pos (nat_abs b)) f k diff) (update_list s p (pos x) (pos (nat_abs b)) f k diff) r s t → EditedIn number left r s t
        update_done r t v =
            let q = sym (counter_at a x e) in
            edited_in (update_code (room s) (spans_of s) p (pos x) (pos (nat_abs b)) f k diff) number (update_list s p (pos x) (pos (nat_abs b)) f k diff) left r s t
            (ap₂ (λ (y z : ℤ). update_code (room s) (spans_of s) p y z f k diff) q ends.0 ∙ number_state st) (ap₂ (λ (y z : ℤ). update_list s p y z f k diff) q ends.0) v

    -- on a well formed store: the number and the list of the call on spans
    pub update_is : (r : ℕ) (t : List ℕ) → EditedIn number left r s t → (r ≡ (update_of (room s) (spans_of s) p a b f k diff).0) × (spans_of t ≡ (update_of (room s) (spans_of s) p a b f k diff).1)
    unfolding update_of
    update_is r t v =
        let e = sym (number_state st) in
        (v.edited.number ∙ e, v.edited.list ∙ ap (λ (c : ℕ). kept c left (spans_of s)) e)
