use Rattle.rope.proofs.Planning.{after_low, after_room, after_row, after_border, after_scan, after_next, after_fits, after_cut}
use native.Mathlib.Omega.{arith}
use Rattle.rope.proofs.insert.plan_after.Goals as goal

pub get_row-row-requires : goal.get_row-row-requires
get_row-row-requires c =
    let a = c.args in
    let p = c.requires in
    after_room a.n a.units a.at a.x a.s.now p.0 p.1 a.c p.2

pub left_at-left-requires : goal.left_at-left-requires
left_at-left-requires c =
    let a = c.args in
    let p = c.requires in
    after_row a.n a.units a.at a.x a.s.now p.0 p.1 a.c p.2 c.get_row-row.result c.get_row-row.ensures

pub overflow_add-c : goal.overflow_add-c
overflow_add-c c =
    let a = c.args in
    let p = c.requires in
    omega (arith, after_low a.n a.units a.at a.x a.s.now p.0 p.1 a.c p.2, p.0.few)

pub plan_scan-requires : goal.plan_scan-requires
plan_scan-requires c =
    let a = c.args in
    let p = c.requires in
    after_border a.n a.units a.at a.x a.s.now p.0 p.1 a.c p.2 c.get_row-row.result c.get_row-row.ensures c.left_at-left.result c.rle_len.result c.left_at-left.ensures c.rle_len.ensures c.if-c-rle_len.true

pub overflow_add-c-else-c-rle_len : goal.overflow_add-c-else-c-rle_len
overflow_add-c-else-c-rle_len c =
    let a = c.args in
    let p = c.requires in
    omega (arith, after_fits a.n a.units a.at a.x a.s.now p.0 p.1 a.c p.2 c.get_row-row.result c.get_row-row.ensures c.left_at-left.result c.rle_len.result c.left_at-left.ensures c.rle_len.ensures c.if-c-rle_len.false)

pub left_at-right-requires : goal.left_at-right-requires
left_at-right-requires c =
    let a = c.args in
    let p = c.requires in
    after_next a.n a.units a.at a.x a.s.now p.0 p.1 a.c p.2 c.get_row-row.result c.get_row-row.ensures c.left_at-left.result c.rle_len.result c.left_at-left.ensures c.rle_len.ensures c.if-c-rle_len.false

pub returns-then-c-rle_len : goal.returns-then-c-rle_len
returns-then-c-rle_len c =
    let a = c.args in
    let p = c.requires in
    after_scan a.n a.units a.at a.x a.s.now p.0 p.1 a.c p.2 c.get_row-row.result c.get_row-row.ensures c.left_at-left.result c.rle_len.result c.left_at-left.ensures c.rle_len.ensures c.if-c-rle_len.true c.plan_scan.result c.plan_scan.ensures

pub returns-else-c-rle_len : goal.returns-else-c-rle_len
returns-else-c-rle_len c =
    let a = c.args in
    let p = c.requires in
    after_cut a.n a.units a.at a.x a.s.now p.0 p.1 a.c p.2 c.get_row-row.result c.get_row-row.ensures c.left_at-left.result c.rle_len.result c.left_at-left.ensures c.rle_len.ensures c.if-c-rle_len.false c.left_at-right.result c.with_origins.result c.left_at-right.ensures c.with_origins.ensures
