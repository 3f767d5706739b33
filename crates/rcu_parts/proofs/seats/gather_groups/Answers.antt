use Rattle.std.proofs.Common.{rules, ◌≡◌, ◌+◌, ◌≤◌, ◌∙◌, [], ◌∷◌, ◌++◌, map, length, sym, ap, subst, arith, vec_len, vec_capacity, All}
use Rattle.std.specs.Mem.{FitsInMemory}
use Rattle.std.proofs.lemmas.List.{map-append, flat_map_more, length-append}
use denote.Param.{param}
use Rattle.rcu_board.specs.Seats.{gathered_view}
use Rattle.rcu_board.specs.declared.view.View.{View}
use Rattle.rcu_part_close.specs.Gathered.{gather}
use Rattle.rcu_part_close.proofs.Gathers.{gather_append}
use Rattle.rcu_part_lists.proofs.Sizes.{in_struct}
use Rattle.rcu_parts.proofs.Passing.{all_passed, one_passed}
use Rattle.rcu_part_group.specs.Groups.{group_board, group_view, members_of}
use Rattle.rcu_parts.specs.OneOpen.{members_in}
use Rattle.rcu_part_group.specs.declared.group.Group.{Group}
use Rattle.rcu_part_group.specs.contracts.group.Group as row
use Rattle.rcu_parts.proofs.seats.gather_groups.Goals as goal
use Rattle.std.proofs.lemmas.List.Elements.{All-head, All-tail}

pub loop-group-init : goal.loop-group-init
loop-group-init g c =
    let e : c.into_iter-group-iterator.result.rest.items ≡ c.args.groups.items = c.into_iter-group-iterator.ensures.into_iter_gives.0 in
    record {
      at = c.requires.all;
      same = search rules;
      rests = c.requires.rests;
      view = search rules;
      boards = subst (λ gs. All (λ h. group_board h.state ≡ c.args.board.now) gs) (sym e) c.requires.board;
      members = c.requires.none;
      all = e;
      room = subst (λ gs. vec_len c.args.members + length (members_in gs) ≤ vec_capacity c.args.members) (sym e) (let z : vec_len c.args.members ≡ 0 = (let o = c.args.members.ok.0 in let n = ap length c.requires.none in omega (arith, o, n)) in omega (arith, z, c.requires.room));
    }

pub gather_group-requires-after_bounds : goal.gather_group-requires-after_bounds
gather_group-requires-after_bounds g c κs within =
    let h : FitsInMemory (row.the_row (param 0 g.row.J) (param 1 g.row.J-Receipt)) = assumption in
    let i = c.loop-group.invariant in
    let e : c.loop-group.group-iterator.rest.items ≡ c.in-Some.group ∷ c.next.new.self.rest.items = c.in-Some.ensures.steps.0 in
    let B : Group g.row.J.Denot g.row.J-Receipt.Denot → Type 0 = λ h. group_board h.state ≡ c.args.board.now in
    let a = ap (λ gs. length (members_in gs)) e ∙ length-append (members_of c.in-Some.group.state) (members_in c.next.new.self.rest.items) in
    (h, (in_struct _ _ _ (in_struct _ _ _ (in_struct _ _ _ h)), (i.at, (i.rests, (All-head B c.in-Some.group c.next.new.self.rest.items (subst (λ gs. All B gs) e i.boards), omega (arith, a, i.room))))))

pub loop-group-preserved : goal.loop-group-preserved
loop-group-preserved g c =
    let i = c.loop-group.invariant in
    let t = c.gather_group.ensures in
    let e : c.loop-group.group-iterator.rest.items ≡ c.in-Some.group ∷ c.next.new.self.rest.items = c.in-Some.ensures.steps.0 in
    let B : Group g.row.J.Denot g.row.J-Receipt.Denot → Type 0 = λ h. group_board h.state ≡ c.args.board.now in
    let v : Group g.row.J.Denot g.row.J-Receipt.Denot → View = λ h. group_view h.state in
    let a = ap (λ gs. length (members_in gs)) e ∙ length-append (members_of c.in-Some.group.state) (members_in c.next.new.self.rest.items) in
    record {
      at = t.same ∙ i.at;
      same = t.same ∙ i.same;
      rests = t.rests;
      view = t.view ∙ (ap (λ w. gather w (v c.in-Some.group ∷ [])) i.view ∙ (sym (gather_append (gathered_view c.args.all.now) (map v c.loop-group.yielded) (v c.in-Some.group ∷ []))
          ∙ ap (gather (gathered_view c.args.all.now)) (sym (map-append v c.loop-group.yielded (c.in-Some.group ∷ [])))));
      boards = All-tail B c.in-Some.group c.next.new.self.rest.items (subst (λ gs. All B gs) e i.boards);
      members = t.members ∙ (ap (λ l. l ++ members_of c.in-Some.group.state) i.members ∙ flat_map_more (λ (h : Group g.row.J.Denot g.row.J-Receipt.Denot). members_of h.state) [] c.loop-group.yielded c.in-Some.group);
      all = one_passed c.loop-group.yielded _ _ _ c.in-Some.group i.all e;
      room = omega (arith, a, i.room, t.len, t.room);
    }

pub returns-clause-view : goal.returns-clause-view
returns-clause-view g c = let i = c.loop-group.invariant in let e : c.loop-group.yielded ≡ c.args.groups.items = all_passed _ _ _ i.all (let o = c.loop-group.group-iterator.rest.ok.0 in let n = c.in-None.ensures.steps.0 in omega (arith, o, n)) in i.view ∙ ap (λ gs. gather (gathered_view c.args.all.now) (map (λ (h : Group g.row.J.Denot g.row.J-Receipt.Denot). group_view h.state) gs)) e

pub returns-clause-members : goal.returns-clause-members
returns-clause-members g c = let i = c.loop-group.invariant in let e : c.loop-group.yielded ≡ c.args.groups.items = all_passed _ _ _ i.all (let o = c.loop-group.group-iterator.rest.ok.0 in let n = c.in-None.ensures.steps.0 in omega (arith, o, n)) in i.members ∙ ap members_in e

pub into_iter-group-iterator-requires-room-T-Destruct : goal.into_iter-group-iterator-requires-room-T-Destruct
into_iter-group-iterator-requires-room-T-Destruct g c κs within = assumption

pub next-requires-room-T-Destruct : goal.next-requires-room-T-Destruct
next-requires-room-T-Destruct g c κs within = assumption

pub gather_group-requires-send-J : goal.gather_group-requires-send-J
gather_group-requires-send-J g c κs within = c.type_bounds.send-J

pub gather_group-requires-send-J-Receipt : goal.gather_group-requires-send-J-Receipt
gather_group-requires-send-J-Receipt g c κs within = c.type_bounds.send-J-Receipt

pub drop-group-iterator-requires-room-T-Destruct : goal.drop-group-iterator-requires-room-T-Destruct
drop-group-iterator-requires-room-T-Destruct g c κs within = assumption

pub returns-clause-same : goal.returns-clause-same
returns-clause-same g c = c.loop-group.invariant.same

pub returns-clause-rests : goal.returns-clause-rests
returns-clause-rests g c = c.loop-group.invariant.rests
