-- What a session remembers, after what is said to it.
use Rattle.std.specs.Prelude.{◌≡◌, ℕ, ◌+◌, ◌*◌, List, Some, None, ◌==◌, if◌then◌else◌}
use Rattle.session.specs.declared.state.Open.{Open}
use Rattle.session.specs.declared.state.Session.{Session}
use Rattle.session.specs.Say.{said_at, said_text}
use Rattle.session.specs.Lines.{done_lines}

-- nothing is open, and everything is lent
abbrev pub new_session : Session
new_session =
    record { «open» = None; lent = 0; held = 0; room = 4294967295; targets = 4294967295; out = 4294967295; at = 0 }

-- more of the answer is written
abbrev pub said_to : Session → ℕ → Session
said_to s n = record { «open» = s.«open»; lent = s.lent; held = s.held; room = s.room; targets = s.targets; out = s.out; at = n }

-- what the next opening lends, and the next call
abbrev pub with_room : Session → ℕ → Session
with_room s n = record { «open» = s.«open»; lent = s.lent; held = s.held; room = n; targets = s.targets; out = s.out; at = s.at }

abbrev pub with_targets : Session → ℕ → Session
with_targets s n = record { «open» = s.«open»; lent = s.lent; held = s.held; room = s.room; targets = n; out = s.out; at = s.at }

abbrev pub with_out : Session → ℕ → Session
with_out s n = record { «open» = s.«open»; lent = s.lent; held = s.held; room = s.room; targets = s.targets; out = n; at = s.at }

-- a rope or a history is open in the room that was said
abbrev pub opened_as : Session → Open → Session
opened_as s what =
    record { «open» = Some what; lent = s.room; held = s.targets; room = s.room; targets = s.targets; out = s.out; at = s.at }

-- the bytes of a header and so many rows
abbrev pub bytes_for : ℕ → ℕ
bytes_for n = 72 + 72 * n

-- a session says lines into s: what it is then, and what it leaves
abbrev pub Answered : Session → List (List ℕ) → List ℕ → Session → List ℕ → Type 0
Answered x ls s r t = (r ≡ said_to x (said_at ls x.at s)) × (t ≡ said_text ls x.at s)

-- the end of an opening: where it was refused, what was open stays
unfoldable pub opened_by : ℕ → Open → Session → Session
opened_by code what x = if code == 0 then opened_as x what else x

abbrev pub OpenedIn : Session → Open → ℕ → List ℕ → Session → List ℕ → Type 0
OpenedIn x what code s r t =
    (r ≡ opened_by code what (said_to x (said_at (done_lines code) x.at s))) × (t ≡ said_text (done_lines code) x.at s)
