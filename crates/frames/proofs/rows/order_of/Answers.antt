use Rattle.std.proofs.Common.{rules}
use Rattle.frames.specs.Orders.{order_of, rows}
use Rattle.frames.proofs.Laws.{tests, to_order, to_none}
use Rattle.frames.proofs.rows.order_of.Goals as goal

pub returns-in-2-eq0-eq0-eq0 : goal.returns-in-2-eq0-eq0-eq0
unfolding order_of rows
returns-in-2-eq0-eq0-eq0 c = search (rules, to_order, tests)

pub returns-in-3-eq0-eq0-eq0 : goal.returns-in-3-eq0-eq0-eq0
unfolding order_of rows
returns-in-3-eq0-eq0-eq0 c = search (rules, to_order, tests)

pub returns-in-4-default-eq0-eq0 : goal.returns-in-4-default-eq0-eq0
unfolding order_of rows
returns-in-4-default-eq0-eq0 c = search (rules, to_order, tests)

pub returns-in-5-default-eq0-eq0 : goal.returns-in-5-default-eq0-eq0
unfolding order_of rows
returns-in-5-default-eq0-eq0 c = search (rules, to_order, tests)

pub returns-in-6-default-eq0-eq0 : goal.returns-in-6-default-eq0-eq0
unfolding order_of rows
returns-in-6-default-eq0-eq0 c = search (rules, to_order, tests)

pub returns-in-7-default-eq0-eq0 : goal.returns-in-7-default-eq0-eq0
unfolding order_of rows
returns-in-7-default-eq0-eq0 c = search (rules, to_order, tests)

pub returns-in-8-eq0-eq0-default : goal.returns-in-8-eq0-eq0-default
unfolding order_of rows
returns-in-8-eq0-eq0-default c = search (rules, to_order, tests)

pub returns-in-9-eq0-eq0-default : goal.returns-in-9-eq0-eq0-default
unfolding order_of rows
returns-in-9-eq0-eq0-default c = search (rules, to_order, tests)

pub returns-in-10-eq0-default-eq0 : goal.returns-in-10-eq0-default-eq0
unfolding order_of rows
returns-in-10-eq0-default-eq0 c = search (rules, to_order, tests)

pub returns-in-11-eq0-default-eq0 : goal.returns-in-11-eq0-default-eq0
unfolding order_of rows
returns-in-11-eq0-default-eq0 c = search (rules, to_order, tests)

pub returns-in-12-eq0-default-default : goal.returns-in-12-eq0-default-default
unfolding order_of rows
returns-in-12-eq0-default-default c = search (rules, to_order, tests)

pub returns-in-13-eq0-default-default : goal.returns-in-13-eq0-default-default
unfolding order_of rows
returns-in-13-eq0-default-default c = search (rules, to_order, tests)

pub returns-in-14-eq0-eq0-eq0 : goal.returns-in-14-eq0-eq0-eq0
unfolding order_of rows
returns-in-14-eq0-eq0-eq0 c = search (rules, to_order, tests)

pub returns-in_default : goal.returns-in_default
unfolding order_of rows
returns-in_default c = search (rules, to_order, tests)

pub returns-in_default-2 : goal.returns-in_default-2
unfolding order_of rows
returns-in_default-2 c = search (rules, to_order, tests)

pub returns-in_default-3 : goal.returns-in_default-3
unfolding order_of rows
returns-in_default-3 c = search (rules, to_order, tests)

pub returns-in_default-4 : goal.returns-in_default-4
unfolding order_of rows
returns-in_default-4 c = search (rules, to_order, tests)

pub returns-in_default-5 : goal.returns-in_default-5
unfolding order_of rows
returns-in_default-5 c = search (rules, to_order, tests)

pub returns-in_default-6 : goal.returns-in_default-6
unfolding order_of rows
returns-in_default-6 c = search (rules, to_order, tests)

pub returns-in_default-7 : goal.returns-in_default-7
unfolding order_of rows
returns-in_default-7 c = search (rules, to_order, tests)

pub returns-in_default-8 : goal.returns-in_default-8
unfolding order_of rows
returns-in_default-8 c = search (rules, to_order, tests)

pub returns-in_default-9 : goal.returns-in_default-9
unfolding order_of rows
returns-in_default-9 c = search (rules, to_order, tests)

pub returns-in_default-10 : goal.returns-in_default-10
unfolding order_of rows
returns-in_default-10 c = search (rules, to_order, tests)

pub returns-in_default-11 : goal.returns-in_default-11
unfolding order_of rows
returns-in_default-11 c = search (rules, to_order, tests)

pub returns-in_default-12 : goal.returns-in_default-12
unfolding order_of rows
returns-in_default-12 c = search (rules, to_order, tests)

pub returns-in_default-13 : goal.returns-in_default-13
unfolding order_of rows
returns-in_default-13 c = search (rules, to_order, tests)

pub returns-in_default-14 : goal.returns-in_default-14
unfolding order_of rows
returns-in_default-14 c = search (rules, to_order, tests)

pub returns-in_default-15 : goal.returns-in_default-15
unfolding order_of rows
returns-in_default-15 c = search (rules, to_order, tests)

pub returns-in_default-16 : goal.returns-in_default-16
unfolding order_of rows
returns-in_default-16 c = search (rules, to_order, tests)

pub returns-in_default-17 : goal.returns-in_default-17
unfolding order_of rows
returns-in_default-17 c = search (rules, to_order, tests)

pub returns-in_default-18 : goal.returns-in_default-18
unfolding order_of rows
returns-in_default-18 c = search (rules, to_order, tests)

pub returns-in_default-19 : goal.returns-in_default-19
unfolding order_of rows
returns-in_default-19 c = search (rules, to_order, tests)

pub returns-in_default-20 : goal.returns-in_default-20
unfolding order_of rows
returns-in_default-20 c = search (rules, to_order, tests)

pub returns-in_default-21 : goal.returns-in_default-21
unfolding order_of rows
returns-in_default-21 c = search (rules, to_order, tests)

pub returns-in_default-22 : goal.returns-in_default-22
unfolding order_of rows
returns-in_default-22 c = search (rules, to_order, tests)

pub returns-in_default-23 : goal.returns-in_default-23
unfolding order_of rows
returns-in_default-23 c = search (rules, to_order, tests)

pub returns-in_default-24 : goal.returns-in_default-24
unfolding order_of rows
returns-in_default-24 c = search (rules, to_order, tests)

pub returns-in_default-25 : goal.returns-in_default-25
unfolding order_of rows
returns-in_default-25 c = search (rules, to_order, tests)

pub returns-in_default-26 : goal.returns-in_default-26
unfolding order_of rows
returns-in_default-26 c = search (rules, to_order, tests)

pub returns-in_default-27 : goal.returns-in_default-27
unfolding order_of rows
returns-in_default-27 c = search (rules, to_order, tests)

pub returns-in_default-28 : goal.returns-in_default-28
unfolding order_of rows
returns-in_default-28 c = search (rules, to_none)
