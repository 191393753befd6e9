use Rattle.std.proofs.Common.{◌+◌, ◌-◌, ◌<◌, ◌∙◌, [], ◌∷◌, ap, length, sym, arith}
use Rattle.pd_sweep.specs.declared.beside.Ledger.{Ledger}
use Rattle.pd_sweep.proofs.BesideLemmas.{next_new, next_old, next_room, none_next, room_at_end, walked_all, walked_none}
use Rattle.pd_sweep.proofs.beside.measures.Goals as goal

pub loop-whose-init : goal.loop-whose-init
loop-whose-init c =
    walked_none c.args.end c.args.olds.now c.args.news.now _
    (ap (λ (l : Ledger). l ∷ l ∷ l ∷ l ∷ l ∷ l ∷ l ∷ l ∷ []) c.start-ledgers.ensures)

pub note-requires : goal.note-requires
note-requires c =
    next_room c.args.end c.args.olds.now c.args.news.now c.requires.old_order c.requires.new_order c.loop-whose.i c.loop-whose.j
    c.loop-whose.ledgers c.loop-whose.invariant c.in-Some.whose c.in-Some.step (sym c.next_of.ensures ∙ c.in-Some.is)

pub overflow_add-i : goal.overflow_add-i
overflow_add-i c =
    let n = next_old c.args.end c.args.olds.now c.args.news.now c.requires.old_order c.requires.new_order c.loop-whose.i c.loop-whose.j
    c.loop-whose.ledgers c.loop-whose.invariant c.in-Some.whose c.in-Some.step (sym c.next_of.ensures ∙ c.in-Some.is) c.in-Old.is in
    let within : c.loop-whose.i < length c.args.olds.now = n.0 in
    omega arith

pub loop-whose-smaller-in-Old : goal.loop-whose-smaller-in-Old
loop-whose-smaller-in-Old c =
    let n = next_old c.args.end c.args.olds.now c.args.news.now c.requires.old_order c.requires.new_order c.loop-whose.i c.loop-whose.j
    c.loop-whose.ledgers c.loop-whose.invariant c.in-Some.whose c.in-Some.step (sym c.next_of.ensures ∙ c.in-Some.is) c.in-Old.is in
    let within : c.loop-whose.i < length c.args.olds.now = n.0 in
    let less : (length c.args.olds.now - (c.loop-whose.i + 1)) + (length c.args.news.now - c.loop-whose.j)
    < (length c.args.olds.now - c.loop-whose.i) + (length c.args.news.now - c.loop-whose.j) = omega arith in
    less

pub loop-whose-preserved-in-Old : goal.loop-whose-preserved-in-Old
loop-whose-preserved-in-Old c =
    let n = next_old c.args.end c.args.olds.now c.args.news.now c.requires.old_order c.requires.new_order c.loop-whose.i c.loop-whose.j
    c.loop-whose.ledgers c.loop-whose.invariant c.in-Some.whose c.in-Some.step (sym c.next_of.ensures ∙ c.in-Some.is) c.in-Old.is in
    rw c.note.ensures (n.1)

pub overflow_add-j : goal.overflow_add-j
overflow_add-j c =
    let n = next_new c.args.end c.args.olds.now c.args.news.now c.requires.old_order c.requires.new_order c.loop-whose.i c.loop-whose.j
    c.loop-whose.ledgers c.loop-whose.invariant c.in-Some.whose c.in-Some.step (sym c.next_of.ensures ∙ c.in-Some.is) c.in-New.is in
    let within : c.loop-whose.j < length c.args.news.now = n.0 in
    omega arith

pub loop-whose-smaller : goal.loop-whose-smaller
loop-whose-smaller c =
    let n = next_new c.args.end c.args.olds.now c.args.news.now c.requires.old_order c.requires.new_order c.loop-whose.i c.loop-whose.j
    c.loop-whose.ledgers c.loop-whose.invariant c.in-Some.whose c.in-Some.step (sym c.next_of.ensures ∙ c.in-Some.is) c.in-New.is in
    let within : c.loop-whose.j < length c.args.news.now = n.0 in
    let less : (length c.args.olds.now - c.loop-whose.i) + (length c.args.news.now - (c.loop-whose.j + 1))
    < (length c.args.olds.now - c.loop-whose.i) + (length c.args.news.now - c.loop-whose.j) = omega arith in
    less

pub loop-whose-preserved : goal.loop-whose-preserved
loop-whose-preserved c =
    let n = next_new c.args.end c.args.olds.now c.args.news.now c.requires.old_order c.requires.new_order c.loop-whose.i c.loop-whose.j
    c.loop-whose.ledgers c.loop-whose.invariant c.in-Some.whose c.in-Some.step (sym c.next_of.ensures ∙ c.in-Some.is) c.in-New.is in
    rw c.note.ensures (n.1)

pub closed-requires : goal.closed-requires
closed-requires c =
    room_at_end c.args.end c.args.olds.now c.args.news.now c.loop-whose.i c.loop-whose.j c.loop-whose.ledgers c.loop-whose.invariant

pub returns : goal.returns
returns c =
    let past = none_next c.args.olds.now c.loop-whose.i c.args.news.now c.loop-whose.j c.requires.old_order.rising
    c.requires.new_order.rising (sym c.next_of.ensures ∙ c.in_default.is) in
    c.closed.ensures
    ∙ walked_all c.args.end c.args.olds.now c.args.news.now c.loop-whose.i c.loop-whose.j c.loop-whose.ledgers c.loop-whose.invariant
    past.0 past.1
