use Rattle.rope.proofs.States.{room_most}
use native.Mathlib.Omega.{arith}
use Rattle.rope.proofs.edit.room_end.Goals as goal

pub overflow_mul-result : goal.overflow_mul-result
overflow_mul-result c = omega (arith, c.room.ensures, room_most c.args.s.now)

pub overflow_add-result : goal.overflow_add-result
overflow_add-result c = omega (arith, c.room.ensures, room_most c.args.s.now)
