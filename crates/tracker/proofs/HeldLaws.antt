-- what the edits held say, read edit by edit
use Prim.Native.Nat.{ℕ, suc, ◌+◌, ◌-◌, ◌*◌, ◌<◌, ◌≤◌}
use mathlib.Core.Path.{◌≡◌, refl, sym, ap, ap₂, ◌∙◌}
use mathlib.Core.Bool.{Bool, true, false, not, ◌&&◌, ◌||◌, cond, true≢false}
use mathlib.Core.List.{List, []}
use native.Mathlib.Omega.{arith}
use native.Mathlib.Nat.{zero-add}
use lib.Dec.{ltb, leb, eqb}
use lib.IntN.{ℤ, pos, negsuc}
use lib.ListN.{length, take, drop, length-drop}
use lib.Seq.{take_all}
use borrow.Author.Tests.{lt-ltb, le-leb, lt-leb, eq-eqb, ne_eqb, eqb-true, eqb-false}
use Rattle.std.specs.Prelude.{Result, Ok, Err}
use Rattle.std.specs.Result.{is_err}
use Rattle.span.specs.declared.refusal.Refusal.{Refusal}
use Rattle.span.specs.declared.ids.Id.{Id}
use Rattle.std.specs.Prelude.{Some as At}
use Rattle.span.specs.Refusal.{code_of}
use Rattle.span.proofs.RefusalLaws.{number_not_zero}
use Rattle.span.specs.Ids.{room_opt}
use Rattle.span.specs.Status.{eq_z}
use Rattle.store.specs.Limits.{PEERS}
use Rattle.units.specs.Codes.{unless}
use Rattle.units.specs.Lists.{every, some}
use Rattle.history.specs.Edit.{Version, Edit, Held, size, size_of}
use Rattle.history.specs.Version.{count_of, held_count, above, rising, is_held, named, within, closed_for, closed}
use Rattle.history.specs.Valid.{act_formed, act_ids, has_peer, peer_count, own_count, edit_code, edits_fit}
use Rattle.tracker.specs.declared.row.Head.{Head}
use Rattle.tracker.specs.Rows.{to_act, to_edit, pairs, pairs_in, context_in, edit_in, broken, held, used}
use Rattle.tracker.specs.Refused.{from, act_code, context_code}
use Rattle.tracker.specs.Last.{last_for, closed_last}
use Rattle.tracker.proofs.Logs.{held_at, held_turn, held_one}
use Rattle.history.proofs.Sound.{fit_snoc}

-- ---------------------------------------------------------------- numbers

eqb_sym : (a b : ℕ) → eqb a b ≡ eqb b a
eqb_sym a b = go (eqb a b) refl
  where
    go : (t : Bool) → eqb a b ≡ t → t ≡ eqb b a
    go true e = sym (eq-eqb b a (sym (eqb-true a b e)))
    go false e = sym (ne_eqb b a (λ q. eqb-false a b e (sym q)))

pub eq_z_sym : (n : ℕ) (z : ℤ) → eq_z (pos n) z ≡ eq_z z (pos n)
eq_z_sym n (pos c) = eqb_sym n c
eq_z_sym n (negsuc c) = refl

-- ---------------------------------------------------------------- a row's edit

-- the bytes from place b on, as a slice has them
pub rest_is : (s : List ℕ) (b : ℕ) → take (length s - b) (drop b s) ≡ drop b s
rest_is s b = take_all (length s - b) (drop b s) (rw length-drop (omega arith))

module _ (row : List ℕ) (k : ℕ) (e : k ≡ pairs_in row) where
  pub context_is : k ≤ PEERS → pairs k (take (length row - 64) (drop 64 row)) ≡ context_in row
  unfolding context_in
  context_is h =
      ap₂ pairs e (rest_is row 64)
      ∙ ap (λ (b : Bool). cond b (pairs (pairs_in row) (drop 64 row)) broken) (sym (le-leb (pairs_in row) PEERS (rw (sym e) h)))

  pub context_broken : PEERS < k → broken ≡ context_in row
  unfolding context_in
  context_broken h = ap (λ (b : Bool). cond b (pairs (pairs_in row) (drop 64 row)) broken) (sym (lt-leb (pairs_in row) PEERS (rw (sym e) h)))

-- a broken version says nothing, and is not named
pub broken-within : (v : Version) → true ≡ within broken v
unfolding within every
broken-within v = ap (λ (b : Bool). b && true) (sym (le-leb 0 (count_of v 0) (omega arith)))

pub wide_within : (row : List ℕ) (k : ℕ) (v : Version) → k ≡ pairs_in row → PEERS < k → ltb PEERS k ≡ within (context_in row) v
wide_within row k v e h = lt-ltb PEERS k h ∙ broken-within v ∙ ap (λ (x : Version). within x v) (context_broken row k e h)

pub broken_code : (l : List Held) (i : Id) → 6 ≡ context_code l broken i
unfolding context_code named rising above every is_held
broken_code l i = refl

-- ---------------------------------------------------------------- from edit i on

pub from_all : (h : ℕ) (e t : List ℕ) → from h e t 0 ≡ held h e t
unfolding held used
from_all h e t = ap (λ (n : ℕ). held n e t) (let q : h - 0 ≡ h = omega arith in q)

pub from_none : (h : ℕ) (e t : List ℕ) (i : ℕ) → h ≤ i → from h e t i ≡ []
unfolding held
from_none h e t i l = ap (λ (n : ℕ). held n (drop (i * 256) e) (drop (used i e * 16) t)) (let q : h - i ≡ 0 = omega arith in q)

pub fit_start : (h : ℕ) (e t : List ℕ) → edits_fit [] (held h e t) ≡ edits_fit (held 0 e t) (from h e t 0)
unfolding held
fit_start h e t = ap (edits_fit []) (sym (from_all h e t))

abbrev edit_at : List ℕ → ℕ → Edit
edit_at e i = edit_in (drop (i * 256) e)

module _ (h : ℕ) (e t : List ℕ) (i : ℕ) where
  module _ (l : i < h) where
    pub count_turn : (p n : ℕ) → n ≡ cond (eqb (edit_at e i).id.peer p) (size (edit_at e i)) 0 → held_count (from h e t i) p ≡ n + held_count (from h e t (i + 1)) p
    unfolding held_count
    count_turn p n q =
        ap (λ (s : List Held). held_count s p) (held_turn h i e t l)
        ∙ (go (eqb (edit_at e i).id.peer p) (size (edit_at e i)) (held_count (from h e t (i + 1)) p)
        ∙ ap (λ (k : ℕ). k + held_count (from h e t (i + 1)) p) (sym q))
      where
        go : (b : Bool) (s r : ℕ) → cond b (s + r) r ≡ cond b s 0 + r
        go true s r = refl
        go false s r = sym (zero-add r)

    pub peer_turn : (p r : ℕ) (q : Bool) → r ≡ (edit_at e i).id.peer → eqb r p ≡ q → has_peer (from h e t i) p ≡ q || has_peer (from h e t (i + 1)) p
    unfolding has_peer some
    peer_turn p r q k b =
        ap (λ (s : List Held). has_peer s p) (held_turn h i e t l)
        ∙ ap (λ (d : Bool). d || has_peer (from h e t (i + 1)) p) (ap (λ (n : ℕ). eqb n p) (sym k) ∙ b)

    pub peers_turn : (n : ℕ) → n ≡ cond (has_peer (from h e t (i + 1)) (edit_at e i).id.peer) 0 1 → peer_count (from h e t i) ≡ n + peer_count (from h e t (i + 1))
    unfolding peer_count
    peers_turn n q =
        ap peer_count (held_turn h i e t l)
        ∙ (go (has_peer (from h e t (i + 1)) (edit_at e i).id.peer) (peer_count (from h e t (i + 1)))
        ∙ ap (λ (k : ℕ). k + peer_count (from h e t (i + 1))) (sym q))
      where
        go : (b : Bool) (r : ℕ) → cond b r (suc r) ≡ cond b 0 1 + r
        go true r = sym (zero-add r)
        go false r = let k : suc r ≡ 1 + r = omega arith in k

    pub closed_turn : (v : Version) → closed (from h e t i) v ≡ closed_for v (edit_in (take (length e - i * 256) (drop (i * 256) e))) && closed (from h e t (i + 1)) v
    unfolding closed every
    closed_turn v =
        ap (λ (s : List Held). closed s v) (held_turn h i e t l)
        ∙ ap (λ (b : Bool). b && closed (from h e t (i + 1)) v) (ap (λ (s : List ℕ). closed_for v (edit_in s)) (sym (rest_is e (i * 256))))

    pub last_turn : (v : Version) → closed_last (from h e t i) v ≡ last_for v (edit_in (take (length e - i * 256) (drop (i * 256) e))) && closed_last (from h e t (i + 1)) v
    unfolding closed_last every
    last_turn v =
        ap (λ (s : List Held). closed_last s v) (held_turn h i e t l)
        ∙ ap (λ (b : Bool). b && closed_last (from h e t (i + 1)) v) (ap (λ (s : List ℕ). last_for v (edit_in s)) (sym (rest_is e (i * 256))))

    pub fit_turn : (q : Bool) → eqb (edit_code (held i e t) (edit_at e i)) 0 ≡ q → edits_fit (held i e t) (from h e t i) ≡ q && edits_fit (held (i + 1) e t) (from h e t (i + 1))
    unfolding edits_fit
    fit_turn q k =
        ap (edits_fit (held i e t)) (held_turn h i e t l)
        ∙ ap₂ (λ (b : Bool) (s : List Held). b && edits_fit s (from h e t (i + 1))) k (sym (held_one i e t))

    -- the same of the row as a slice has it
    pub fit_step : edits_fit (held i e t) (from h e t i) ≡ eqb (edit_code (held i e t) (edit_in (take (length e - i * 256) (drop (i * 256) e)))) 0 && edits_fit (held (i + 1) e t) (from h e t (i + 1))
    fit_step = fit_turn _ (ap (λ (s : List ℕ). eqb (edit_code (held i e t) (edit_in s)) 0) (sym (rest_is e (i * 256))))

  module _ (l : h ≤ i) where
    pub count_done : (p : ℕ) → held_count (from h e t i) p ≡ 0
    unfolding held_count
    count_done p = ap (λ (s : List Held). held_count s p) (from_none h e t i l)

    pub peer_done : (p : ℕ) → has_peer (from h e t i) p ≡ false
    unfolding has_peer some
    peer_done p = ap (λ (s : List Held). has_peer s p) (from_none h e t i l)

    pub peers_done : peer_count (from h e t i) ≡ 0
    unfolding peer_count
    peers_done = ap peer_count (from_none h e t i l)

    pub closed_done : (v : Version) → closed (from h e t i) v ≡ true
    unfolding closed every
    closed_done v = ap (λ (s : List Held). closed s v) (from_none h e t i l)

    pub last_done : (v : Version) → closed_last (from h e t i) v ≡ true
    unfolding closed_last every
    last_done v = ap (λ (s : List Held). closed_last s v) (from_none h e t i l)

    pub fit_done : edits_fit (held i e t) (from h e t i) ≡ true
    unfolding edits_fit
    fit_done = ap (edits_fit (held i e t)) (from_none h e t i l)

pub fit_none : (e t : List ℕ) → edits_fit [] (held 0 e t) ≡ true
unfolding held edits_fit
fit_none e t = refl

pub fit_more : (e t : List ℕ) (i : ℕ) → edits_fit [] (held i e t) ≡ true → edit_code (held i e t) (edit_at e i) ≡ 0 → edits_fit [] (held (i + 1) e t) ≡ true
fit_more e t i p q = ap (edits_fit []) (held_one i e t) ∙ fit_snoc [] (held i e t) (held_at i e t) p q

pub fit_next : (e t : List ℕ) (i : ℕ) → edits_fit [] (held i e t) ≡ true → edit_code (held i e t) (edit_in (take (length e - i * 256) (drop (i * 256) e))) ≡ 0 → edits_fit [] (held (i + 1) e t) ≡ true
fit_next e t i p q = fit_more e t i p (ap (λ (s : List ℕ). edit_code (held i e t) (edit_in s)) (sym (rest_is e (i * 256))) ∙ q)

-- ---------------------------------------------------------------- the numbers of refusals

-- an outcome's number, by whether it is refused
pub code_of-err : (r : Result (Unit {0}) Refusal) → is_err r ≡ true → code_of r ≡ 0 → ⊥
code_of-err (Ok x) h = absurd (true≢false (sym h))
code_of-err (Err e) h = number_not_zero e

pub code_of-ok : (r : Result (Unit {0}) Refusal) → is_err r ≡ false → code_of r ≡ 0
code_of-ok (Ok x) h = refl
code_of-ok (Err e) h = absurd (true≢false h)

module _ (l : List Held) (hd : Head) (context : Version) (x : Edit) (e : to_edit hd context ≡ x) where
  pub edit_by : (k : ℕ) (f g : Bool) → act_code hd.id (to_act hd.act) ≡ k → (has_peer l hd.id.peer || not (leb PEERS (peer_count l))) ≡ f →
      eq_z hd.id.counter (pos (held_count l hd.id.peer)) ≡ g →
      cond (eqb k 0) (unless f 4 (unless g 5 (context_code l context hd.id))) k ≡ edit_code l x
  unfolding edit_code act_code context_code own_count
  edit_by k f g p q r = rw (sym q, sym r, sym p) (go (act_formed (to_act hd.act)) (room_opt (At hd.id) (size_of (to_act hd.act)) && act_ids (to_act hd.act)) _ ∙ ap (edit_code l) e)
    where
      go : (a b : Bool) (n : ℕ) → cond (eqb (unless a 1 (unless b 2 0)) 0) n (unless a 1 (unless b 2 0)) ≡ unless a 1 (unless b 2 n)
      go true true n = refl
      go true false n = refl
      go false b n = refl

  pub edit_alone : (k : ℕ) → k ≡ act_code hd.id (to_act hd.act) → (k ≡ 0 → ⊥) → k ≡ edit_code l x
  edit_alone k p n =
      ap (λ (b : Bool). cond b (unless (has_peer l hd.id.peer || not (leb PEERS (peer_count l))) 4 (unless (eq_z hd.id.counter (pos (held_count l hd.id.peer))) 5 (context_code l context hd.id))) k) (sym (ne_eqb k 0 n))
      ∙ edit_by k _ _ (sym p) refl refl

-- ---------------------------------------------------------------- what each loop over the edits cites

pub ruleset counts = (from_all, count_turn, count_done)

pub ruleset holders = (from_all, peer_turn, peer_done)

pub ruleset peers = (from_all, peers_turn, peers_done)

pub ruleset closes = (from_all, closed_turn, closed_done)

pub ruleset lasts = (from_all, last_turn, last_done)

pub ruleset fits = (fit_start, fit_none, fit_step, fit_next, fit_done, code_of-err, code_of-ok)

pub ruleset contexts = (context_is, context_broken, broken_code)
