use Rattle.std.proofs.Common.{◌≡◌, ℕ, suc, ◌+◌, arith, List, ◌∷◌, [], ◌++◌, length, length-append, ap, sym, ◌∙◌, subst}
use Rattle.std.specs.Arc.{arc_value}
use Rattle.std.specs.Mem.{FitsInMemory}
use denote.Param.{param}
use Rattle.rcu_board.specs.Opened.{InOrder, IsNewProcessor}
use Rattle.rcu_parts.specs.Openings.{IsFirstProcessor}
use Rattle.rcu_part_processor.specs.contracts.processor.Processor as row
use Rattle.rcu_part_processor.proofs.Beginnings.{offloads_at}
use Rattle.rcu_parts.proofs.Making.{fronts_more, fronts_same, processors_more, processors_none}
use Rattle.rcu_parts.proofs.Zips.{seat_taken}
use Rattle.rcu_parts.proofs.opening.open_processors.Given.{Over}
use Rattle.rcu_lists.proofs.Outcomes.{if_ok_never}
use Rattle.rcu_parts.proofs.Passing.{all_there, room_begun, room_kept, room_now, room_spared}
use Rattle.std.specs.List.{AllZip, range_with_len}
use Rattle.rcu_parts.proofs.opening.open_processors.Goals as goal

fits : (g : Over) (c : goal.After-into_iter-seat-iterator g) → FitsInMemory (row.the_row (param 0 g.row.J) (param 1 g.row.J-Receipt))
fits g c = assumption

pub loop-seat-init : goal.loop-seat-init
loop-seat-init g c = let e = c.into_iter-seat-iterator.ensures.into_iter_gives.0 in let n = c.args.seats.ok.0 in let P = IsNewProcessor (arc_value c.args.board.now) in
    let ps = c.in_ok-processors.ensures.items in let none = processors_none c.args.shape.now c.args.kept (arc_value c.args.board.now) c.in_ok-processors.processors.items c.in_ok-fronts.fronts.items ps c.in_ok-fronts.ensures.items in record {
      seats = subst (λ k. InOrder P k c.into_iter-seat-iterator.result.rest.items) (sym (ap (λ l. length l) ps)) (subst (λ l. InOrder P 0 l) (sym e) c.requires.seats);
      many = let a = ap (λ l. length l) ps in let z = ap (λ l. length l) e in let m = c.requires.many in omega (arith, a, z, m);
      processors = none.0;
      fronts = none.1;
      for_processors = room_begun _ _ _ _ _ _ e c.len-many.ensures n c.in_ok-processors.ensures.len c.in_ok-processors.ensures.capacity;
      for_fronts = room_begun _ _ _ _ _ _ e c.len-many.ensures n c.in_ok-fronts.ensures.len c.in_ok-fronts.ensures.capacity;
    }

pub push_reserved-requires : goal.push_reserved-requires
push_reserved-requires g c = room_now _ _ _ _ _ c.in-Some.ensures.steps.0 c.loop-seat.invariant.for_processors

pub push_back_reserved-requires : goal.push_back_reserved-requires
push_back_reserved-requires g c = room_now _ _ _ _ _ c.in-Some.ensures.steps.0 c.loop-seat.invariant.for_fronts

pub open_processor-requires-after_bounds : goal.open_processor-requires-after_bounds
open_processor-requires-after_bounds g c κs within = let i = c.loop-seat.invariant in let e = c.loop-seat.processors.ok.0 in let r = c.len-cpu.ensures in
    let t = seat_taken (IsNewProcessor (arc_value c.args.board.now)) (length c.loop-seat.processors.items) (arc_value c.args.board.now).processors c.len-cpu.result c.loop-seat.seat-iterator.rest.items c.in-Some.seat c.next.new.self.rest.items i.seats i.many (omega (arith, e, r)) c.in-Some.ensures.steps.0 in
    let start = c.before.before.before.before.before.before in (fits g start, (t.0, t.1))

longer : {X : Type 0} (xs ys : List X) (x : X) → ys ≡ xs ++ x ∷ [] → length ys ≡ suc (length xs)
longer xs ys x e = let a = ap (λ l. length l) e in let b = length-append xs (x ∷ []) in omega (arith, a, b)

pub loop-seat-preserved-then-not-is_offloadable : goal.loop-seat-preserved-then-not-is_offloadable
loop-seat-preserved-then-not-is_offloadable g c =
    let i = c.loop-seat.invariant in let ps = c.loop-seat.processors.items in let b = arc_value c.args.board.now in let ok = c.loop-seat.processors.ok.0 in let r = c.len-cpu.ensures in
    let same : c.len-cpu.result ≡ length ps = omega (arith, ok, r) in
    let t = seat_taken (IsNewProcessor b) (length ps) b.processors c.len-cpu.result c.loop-seat.seat-iterator.rest.items c.in-Some.seat c.next.new.self.rest.items i.seats i.many same c.in-Some.ensures.steps.0 in
    let new = c.push_reserved.ensures.items in let long = longer ps c.push_reserved.new.self.items c.in_ok-processor.processor new in
    let first = c.in_ok-processor.ensures.processor in record {
      seats = subst (λ (k : ℕ). InOrder (IsNewProcessor b) k c.next.new.self.rest.items) (sym long) t.2;
      many = ap (λ k. k + length c.next.new.self.rest.items) long ∙ t.3;
      processors = processors_more c.args.shape.now c.args.kept b ps c.push_reserved.new.self.items c.in_ok-processor.processor i.processors (subst (λ (k : ℕ). IsFirstProcessor c.args.shape.now c.args.kept b k c.in_ok-processor.processor) same first) new;
      fronts = fronts_same ps c.push_reserved.new.self.items c.in_ok-processor.processor c.loop-seat.fronts.items i.fronts
          (first.part.offloadable ∙ sym (offloads_at b c.deref.result.now c.deref.ensures c.is_offloadable.result c.len-cpu.result c.is_offloadable.ensures) ∙ c.if-not-is_offloadable.true) new;
      for_processors = room_kept _ _ _ _ _ _ _ c.in-Some.ensures.steps.0 i.for_processors c.push_reserved.ensures.len c.push_reserved.ensures.capacity;
      for_fronts = room_spared _ _ _ _ _ c.in-Some.ensures.steps.0 i.for_fronts;
    }

pub loop-seat-preserved : goal.loop-seat-preserved
loop-seat-preserved g c =
    let i = c.loop-seat.invariant in let ps = c.loop-seat.processors.items in let b = arc_value c.args.board.now in let ok = c.loop-seat.processors.ok.0 in let r = c.len-cpu.ensures in
    let same : c.len-cpu.result ≡ length ps = omega (arith, ok, r) in
    let t = seat_taken (IsNewProcessor b) (length ps) b.processors c.len-cpu.result c.loop-seat.seat-iterator.rest.items c.in-Some.seat c.next.new.self.rest.items i.seats i.many same c.in-Some.ensures.steps.0 in
    let new = c.push_reserved.ensures.items in let long = longer ps c.push_reserved.new.self.items c.in_ok-processor.processor new in
    let first = c.in_ok-processor.ensures.processor in record {
      seats = subst (λ (k : ℕ). InOrder (IsNewProcessor b) k c.next.new.self.rest.items) (sym long) t.2;
      many = ap (λ k. k + length c.next.new.self.rest.items) long ∙ t.3;
      processors = processors_more c.args.shape.now c.args.kept b ps c.push_reserved.new.self.items c.in_ok-processor.processor i.processors (subst (λ (k : ℕ). IsFirstProcessor c.args.shape.now c.args.kept b k c.in_ok-processor.processor) same first) new;
      fronts = fronts_more ps c.push_reserved.new.self.items c.in_ok-processor.processor c.loop-seat.fronts.items c.push_back_reserved.new.self.items c.in_ok-processor.front i.fronts
          (first.part.offloadable ∙ sym (offloads_at b c.deref.result.now c.deref.ensures c.is_offloadable.result c.len-cpu.result c.is_offloadable.ensures) ∙ c.if-not-is_offloadable.false) c.in_ok-processor.ensures.lane new c.push_back_reserved.ensures.items;
      for_processors = room_kept _ _ _ _ _ _ _ c.in-Some.ensures.steps.0 i.for_processors c.push_reserved.ensures.len c.push_reserved.ensures.capacity;
      for_fronts = room_kept _ _ _ _ _ _ _ c.in-Some.ensures.steps.0 i.for_fronts c.push_back_reserved.ensures.len c.push_back_reserved.ensures.capacity;
    }

pub returns-in_err-processors : goal.returns-in_err-processors
returns-in_err-processors g c = let e = c.from_residual.ensures in record { processors = if_ok_never _ _ e; fronts = if_ok_never _ _ e }

pub returns-in_err-fronts : goal.returns-in_err-fronts
returns-in_err-fronts g c = let e = c.from_residual-in_err-fronts.ensures in record { processors = if_ok_never _ _ e; fronts = if_ok_never _ _ e }

pub returns-in_err-processor : goal.returns-in_err-processor
returns-in_err-processor g c = let e = c.from_residual-in_err-processor.ensures in record { processors = if_ok_never _ _ e; fronts = if_ok_never _ _ e }

pub open_processor-requires-send-J : goal.open_processor-requires-send-J
open_processor-requires-send-J g c κs within = c.type_bounds.send-J

pub open_processor-requires-send-J-Receipt : goal.open_processor-requires-send-J-Receipt
open_processor-requires-send-J-Receipt g c κs within = c.type_bounds.send-J-Receipt

pub drop-processors-requires-room-T-Destruct : goal.drop-processors-requires-room-T-Destruct
drop-processors-requires-room-T-Destruct g c κs within = assumption

pub drop-processors-requires-in_err-processor-room-T-Destruct : goal.drop-processors-requires-in_err-processor-room-T-Destruct
drop-processors-requires-in_err-processor-room-T-Destruct g c κs within = assumption

pub returns-clause-processors : goal.returns-clause-processors
returns-clause-processors g c = let i = c.loop-seat.invariant in let b = arc_value c.args.board.now in let ps = c.loop-seat.processors.items in
    subst (λ (n : ℕ). AllZip (IsFirstProcessor c.args.shape.now c.args.kept b) (range_with_len 0 n) ps) (all_there _ _ _ _ i.many c.in-None.ensures.steps.0 c.loop-seat.seat-iterator.rest.ok.0) i.processors

pub returns-clause-fronts : goal.returns-clause-fronts
returns-clause-fronts g c = c.loop-seat.invariant.fronts
