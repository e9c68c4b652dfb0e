-- Edits handed over one after another, up to and including the first that is refused. Assumes nothing.
use Rattle.std.specs.Prelude.{ℕ, ◌+◌, List, [], ◌∷◌, length, if◌then◌else◌, nat_lt, ◌==◌}
use Rattle.units.specs.Limits.{EDITS}
use Rattle.units.specs.Codes.{unless}
use Rattle.history.specs.Edit.{Edit, History}
use Rattle.history.specs.Checkout.{units_at}
use Rattle.history.specs.Arrive.{arrive}
use Rattle.history.specs.Valid.{edit_code}
use Rattle.history.specs.Codes.{on_units, stored, or_else, inside, arrival_fits, arrive_code, arrive_of}

-- after n edits that were taken, what the rest comes to
abbrev pub more : ℕ → ℕ × ℕ × History → ℕ × ℕ × History
more n r = (n + r.0, r.1, r.2)

-- how many edits are taken, the number of the one that is refused (0 for none), and the history that is left
unfoldable pub arrive_run : ℕ → ℕ → History → List Edit → ℕ × ℕ × History
arrive_run spans targets h [] = (0, 0, h)
arrive_run spans targets h (e ∷ es) =
    if arrive_code spans targets h e == 0 then more 1 (arrive_run spans targets (arrive_of spans targets h e).1 es)
    else (0, arrive_code spans targets h e, h)

-- the same with 15 not asked: `arrive_code` is this where the history is valid
unfoldable pub arrive_rest : ℕ → ℕ → History → Edit → ℕ
arrive_rest spans targets h e =
    or_else (edit_code h.held e)
    (unless (inside e.act e.at (units_at e.context (on_units h))) 8
    (unless (nat_lt (length h.held) EDITS) 9
    (unless (arrival_fits spans targets (on_units h) e) 10 0)))

unfoldable pub rest_run : ℕ → ℕ → History → List Edit → ℕ × ℕ × History
rest_run spans targets h [] = (0, 0, h)
rest_run spans targets h (e ∷ es) =
    if arrive_rest spans targets h e == 0 then more 1 (rest_run spans targets (stored (arrive (on_units h) e)) es)
    else (0, arrive_rest spans targets h e, h)
