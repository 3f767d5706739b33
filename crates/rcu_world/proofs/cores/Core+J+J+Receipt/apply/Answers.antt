-- each event is one call, which asks what `apply` asks
use Rattle.std.proofs.Common.{subst, sym, ap, ◌∙◌}
use Rattle.rcu_world.specs.Ready.{LeavesRoom, UsesRoom}
use Rattle.rcu_world.specs.Stays.{Applies}
use Rattle.rcu_world.specs.declared.events.Event.TheVariants.{Need}
use Rattle.rcu_world.proofs.cores.Core+J+J+Receipt.apply.Goals as goal

pub accept-requires-send-J : goal.accept-requires-send-J
accept-requires-send-J g c κs within = c.type_bounds.send-J

pub accept-requires-send-J-Receipt : goal.accept-requires-send-J-Receipt
accept-requires-send-J-Receipt g c κs within = c.type_bounds.send-J-Receipt

pub accept-requires-after_bounds : goal.accept-requires-after_bounds
accept-requires-after_bounds g c κs within = (assumption, c.requires.fit)

pub stamp-requires-send-J : goal.stamp-requires-send-J
stamp-requires-send-J g c κs within = c.type_bounds.send-J

pub stamp-requires-send-J-Receipt : goal.stamp-requires-send-J-Receipt
stamp-requires-send-J-Receipt g c κs within = c.type_bounds.send-J-Receipt

pub stamp-requires-after_bounds : goal.stamp-requires-after_bounds
stamp-requires-after_bounds g c κs within = (assumption, (c.requires.fit, c.requires.given))

pub put-requires-send-J : goal.put-requires-send-J
put-requires-send-J g c κs within = c.type_bounds.send-J

pub put-requires-send-J-Receipt : goal.put-requires-send-J-Receipt
put-requires-send-J-Receipt g c κs within = c.type_bounds.send-J-Receipt

pub put-requires-after_bounds : goal.put-requires-after_bounds
put-requires-after_bounds g c κs within = (assumption, c.requires.fit)

pub report-requires-send-J : goal.report-requires-send-J
report-requires-send-J g c κs within = c.type_bounds.send-J

pub report-requires-send-J-Receipt : goal.report-requires-send-J-Receipt
report-requires-send-J-Receipt g c κs within = c.type_bounds.send-J-Receipt

pub report-requires-after_bounds : goal.report-requires-after_bounds
report-requires-after_bounds g c κs within = (assumption, c.requires.fit)

pub start-requires-send-J : goal.start-requires-send-J
start-requires-send-J g c κs within = c.type_bounds.send-J

pub start-requires-send-J-Receipt : goal.start-requires-send-J-Receipt
start-requires-send-J-Receipt g c κs within = c.type_bounds.send-J-Receipt

pub start-requires-after_bounds : goal.start-requires-after_bounds
start-requires-after_bounds g c κs within = (assumption, c.requires.fit)

pub end-requires-send-J : goal.end-requires-send-J
end-requires-send-J g c κs within = c.type_bounds.send-J

pub end-requires-send-J-Receipt : goal.end-requires-send-J-Receipt
end-requires-send-J-Receipt g c κs within = c.type_bounds.send-J-Receipt

pub end-requires-after_bounds : goal.end-requires-after_bounds
end-requires-after_bounds g c κs within = (assumption, c.requires.fit)

pub look-requires-send-J : goal.look-requires-send-J
look-requires-send-J g c κs within = c.type_bounds.send-J

pub look-requires-send-J-Receipt : goal.look-requires-send-J-Receipt
look-requires-send-J-Receipt g c κs within = c.type_bounds.send-J-Receipt

pub look-requires-after_bounds : goal.look-requires-after_bounds
look-requires-after_bounds g c κs within = (assumption, c.requires.fit)

pub look_group-requires-send-J : goal.look_group-requires-send-J
look_group-requires-send-J g c κs within = c.type_bounds.send-J

pub look_group-requires-send-J-Receipt : goal.look_group-requires-send-J-Receipt
look_group-requires-send-J-Receipt g c κs within = c.type_bounds.send-J-Receipt

pub look_group-requires-after_bounds : goal.look_group-requires-after_bounds
look_group-requires-after_bounds g c κs within = (assumption, c.requires.fit)

pub look_hand-requires-send-J : goal.look_hand-requires-send-J
look_hand-requires-send-J g c κs within = c.type_bounds.send-J

pub look_hand-requires-send-J-Receipt : goal.look_hand-requires-send-J-Receipt
look_hand-requires-send-J-Receipt g c κs within = c.type_bounds.send-J-Receipt

pub look_hand-requires-after_bounds : goal.look_hand-requires-after_bounds
look_hand-requires-after_bounds g c κs within = (assumption, c.requires.fit)

pub draw-requires-send-J : goal.draw-requires-send-J
draw-requires-send-J g c κs within = c.type_bounds.send-J

pub draw-requires-send-J-Receipt : goal.draw-requires-send-J-Receipt
draw-requires-send-J-Receipt g c κs within = c.type_bounds.send-J-Receipt

pub draw-requires-after_bounds : goal.draw-requires-after_bounds
draw-requires-after_bounds g c κs within = (assumption, c.requires.fit)

pub join-requires-send-J : goal.join-requires-send-J
join-requires-send-J g c κs within = c.type_bounds.send-J

pub join-requires-send-J-Receipt : goal.join-requires-send-J-Receipt
join-requires-send-J-Receipt g c κs within = c.type_bounds.send-J-Receipt

pub join-requires-after_bounds : goal.join-requires-after_bounds
join-requires-after_bounds g c κs within = (assumption, c.requires.fit)

pub give-requires-send-J : goal.give-requires-send-J
give-requires-send-J g c κs within = c.type_bounds.send-J

pub give-requires-send-J-Receipt : goal.give-requires-send-J-Receipt
give-requires-send-J-Receipt g c κs within = c.type_bounds.send-J-Receipt

pub give-requires-after_bounds : goal.give-requires-after_bounds
give-requires-after_bounds g c κs within = (assumption, c.requires.fit)

pub fetch-requires-send-J : goal.fetch-requires-send-J
fetch-requires-send-J g c κs within = c.type_bounds.send-J

pub fetch-requires-send-J-Receipt : goal.fetch-requires-send-J-Receipt
fetch-requires-send-J-Receipt g c κs within = c.type_bounds.send-J-Receipt

pub fetch-requires-after_bounds : goal.fetch-requires-after_bounds
fetch-requires-after_bounds g c κs within = (assumption, c.requires.fit)

pub claim-requires-send-J : goal.claim-requires-send-J
claim-requires-send-J g c κs within = c.type_bounds.send-J

pub claim-requires-send-J-Receipt : goal.claim-requires-send-J-Receipt
claim-requires-send-J-Receipt g c κs within = c.type_bounds.send-J-Receipt

pub claim-requires-after_bounds : goal.claim-requires-after_bounds
claim-requires-after_bounds g c κs within = (assumption, c.requires.fit)

pub finish-requires-send-J : goal.finish-requires-send-J
finish-requires-send-J g c κs within = c.type_bounds.send-J

pub finish-requires-send-J-Receipt : goal.finish-requires-send-J-Receipt
finish-requires-send-J-Receipt g c κs within = c.type_bounds.send-J-Receipt

pub finish-requires-after_bounds : goal.finish-requires-after_bounds
finish-requires-after_bounds g c κs within = (assumption, c.requires.fit)

pub ask-requires-send-J : goal.ask-requires-send-J
ask-requires-send-J g c κs within = c.type_bounds.send-J

pub ask-requires-send-J-Receipt : goal.ask-requires-send-J-Receipt
ask-requires-send-J-Receipt g c κs within = c.type_bounds.send-J-Receipt

pub ask-requires-after_bounds : goal.ask-requires-after_bounds
ask-requires-after_bounds g c κs within = (assumption, c.requires.fit)

pub heed-requires-send-J : goal.heed-requires-send-J
heed-requires-send-J g c κs within = c.type_bounds.send-J

pub heed-requires-send-J-Receipt : goal.heed-requires-send-J-Receipt
heed-requires-send-J-Receipt g c κs within = c.type_bounds.send-J-Receipt

pub heed-requires-after_bounds : goal.heed-requires-after_bounds
heed-requires-after_bounds g c κs within = (assumption, c.requires.fit)

pub settle-requires-send-J : goal.settle-requires-send-J
settle-requires-send-J g c κs within = c.type_bounds.send-J

pub settle-requires-send-J-Receipt : goal.settle-requires-send-J-Receipt
settle-requires-send-J-Receipt g c κs within = c.type_bounds.send-J-Receipt

pub settle-requires-after_bounds : goal.settle-requires-after_bounds
settle-requires-after_bounds g c κs within = (assumption, c.requires.fit)

pub open-requires-send-J : goal.open-requires-send-J
open-requires-send-J g c κs within = c.type_bounds.send-J

pub open-requires-send-J-Receipt : goal.open-requires-send-J-Receipt
open-requires-send-J-Receipt g c κs within = c.type_bounds.send-J-Receipt

pub open-requires-after_bounds : goal.open-requires-after_bounds
open-requires-after_bounds g c κs within = (assumption, c.requires.fit)

pub count-requires-send-J : goal.count-requires-send-J
count-requires-send-J g c κs within = c.type_bounds.send-J

pub count-requires-send-J-Receipt : goal.count-requires-send-J-Receipt
count-requires-send-J-Receipt g c κs within = c.type_bounds.send-J-Receipt

pub count-requires-after_bounds : goal.count-requires-after_bounds
count-requires-after_bounds g c κs within = (assumption, c.requires.fit)

pub turn-requires-send-J : goal.turn-requires-send-J
turn-requires-send-J g c κs within = c.type_bounds.send-J

pub turn-requires-send-J-Receipt : goal.turn-requires-send-J-Receipt
turn-requires-send-J-Receipt g c κs within = c.type_bounds.send-J-Receipt

pub turn-requires-after_bounds : goal.turn-requires-after_bounds
turn-requires-after_bounds g c κs within = (assumption, c.requires.fit)

pub pass-requires-send-J : goal.pass-requires-send-J
pass-requires-send-J g c κs within = c.type_bounds.send-J

pub pass-requires-send-J-Receipt : goal.pass-requires-send-J-Receipt
pass-requires-send-J-Receipt g c κs within = c.type_bounds.send-J-Receipt

pub pass-requires-after_bounds : goal.pass-requires-after_bounds
pass-requires-after_bounds g c κs within = (assumption, c.requires.fit)

pub shut-requires-send-J : goal.shut-requires-send-J
shut-requires-send-J g c κs within = c.type_bounds.send-J

pub shut-requires-send-J-Receipt : goal.shut-requires-send-J-Receipt
shut-requires-send-J-Receipt g c κs within = c.type_bounds.send-J-Receipt

pub shut-requires-after_bounds : goal.shut-requires-after_bounds
shut-requires-after_bounds g c κs within = (assumption, c.requires.fit)

pub urge-requires-send-J : goal.urge-requires-send-J
urge-requires-send-J g c κs within = c.type_bounds.send-J

pub urge-requires-send-J-Receipt : goal.urge-requires-send-J-Receipt
urge-requires-send-J-Receipt g c κs within = c.type_bounds.send-J-Receipt

pub urge-requires-after_bounds : goal.urge-requires-after_bounds
urge-requires-after_bounds g c κs within = (assumption, c.requires.fit)

pub hear-requires-send-J : goal.hear-requires-send-J
hear-requires-send-J g c κs within = c.type_bounds.send-J

pub hear-requires-send-J-Receipt : goal.hear-requires-send-J-Receipt
hear-requires-send-J-Receipt g c κs within = c.type_bounds.send-J-Receipt

pub hear-requires-after_bounds : goal.hear-requires-after_bounds
hear-requires-after_bounds g c κs within = (assumption, c.requires.fit)

pub leave-requires-send-J : goal.leave-requires-send-J
leave-requires-send-J g c κs within = c.type_bounds.send-J

pub leave-requires-send-J-Receipt : goal.leave-requires-send-J-Receipt
leave-requires-send-J-Receipt g c κs within = c.type_bounds.send-J-Receipt

pub leave-requires-after_bounds : goal.leave-requires-after_bounds
leave-requires-after_bounds g c κs within = (assumption, c.requires.fit)

pub come_back-requires-send-J : goal.come_back-requires-send-J
come_back-requires-send-J g c κs within = c.type_bounds.send-J

pub come_back-requires-send-J-Receipt : goal.come_back-requires-send-J-Receipt
come_back-requires-send-J-Receipt g c κs within = c.type_bounds.send-J-Receipt

pub come_back-requires-after_bounds : goal.come_back-requires-after_bounds
come_back-requires-after_bounds g c κs within = (assumption, c.requires.fit)

pub meet-requires-send-J : goal.meet-requires-send-J
meet-requires-send-J g c κs within = c.type_bounds.send-J

pub meet-requires-send-J-Receipt : goal.meet-requires-send-J-Receipt
meet-requires-send-J-Receipt g c κs within = c.type_bounds.send-J-Receipt

pub meet-requires-after_bounds : goal.meet-requires-after_bounds
meet-requires-after_bounds g c κs within = (assumption, c.requires.fit)

pub need_own-requires-send-J : goal.need_own-requires-send-J
need_own-requires-send-J g c κs within = c.type_bounds.send-J

pub need_own-requires-send-J-Receipt : goal.need_own-requires-send-J-Receipt
need_own-requires-send-J-Receipt g c κs within = c.type_bounds.send-J-Receipt

pub need_own-requires-after_bounds : goal.need_own-requires-after_bounds
need_own-requires-after_bounds g c κs within = (assumption, c.requires.fit)

pub need_group-requires-send-J : goal.need_group-requires-send-J
need_group-requires-send-J g c κs within = c.type_bounds.send-J

pub need_group-requires-send-J-Receipt : goal.need_group-requires-send-J-Receipt
need_group-requires-send-J-Receipt g c κs within = c.type_bounds.send-J-Receipt

pub need_group-requires-after_bounds : goal.need_group-requires-after_bounds
need_group-requires-after_bounds g c κs within = (assumption, c.requires.fit)

pub returns-in-Accept-clause-ready : goal.returns-in-Accept-clause-ready
returns-in-Accept-clause-ready g c = subst (λ e. LeavesRoom e c.accept.result c.accept.new.self) (sym c.in-Accept.is) c.accept.ensures.ready

pub returns-in-Accept-clause-answers : goal.returns-in-Accept-clause-answers
returns-in-Accept-clause-answers g c = subst (λ e. Applies g.J.Job.key_of g.J.Job.gives c.args.self.now e c.accept.result c.accept.new.self) (sym c.in-Accept.is) c.accept.ensures.answers

pub returns-in-Accept-clause-sure : goal.returns-in-Accept-clause-sure
returns-in-Accept-clause-sure g c = subst (λ e. UsesRoom c.args.self.now e c.accept.result) (sym c.in-Accept.is) tt

pub returns-in-Stamp-clause-answers : goal.returns-in-Stamp-clause-answers
returns-in-Stamp-clause-answers g c = subst (λ e. Applies g.J.Job.key_of g.J.Job.gives c.args.self.now e c.stamp.result c.stamp.new.self) (sym c.in-Stamp.is) c.stamp.ensures.answers

pub returns-in-Stamp-clause-ready : goal.returns-in-Stamp-clause-ready
returns-in-Stamp-clause-ready g c = subst (λ e. LeavesRoom e c.stamp.result c.stamp.new.self) (sym c.in-Stamp.is) tt

pub returns-in-Stamp-clause-sure : goal.returns-in-Stamp-clause-sure
returns-in-Stamp-clause-sure g c = subst (λ e. UsesRoom c.args.self.now e c.stamp.result) (sym c.in-Stamp.is) c.stamp.ensures.sure

pub returns-in-Put-clause-answers : goal.returns-in-Put-clause-answers
returns-in-Put-clause-answers g c = subst (λ e. Applies g.J.Job.key_of g.J.Job.gives c.args.self.now e c.put.result c.put.new.self) (sym c.in-Put.is) c.put.ensures.answers

pub returns-in-Put-clause-ready : goal.returns-in-Put-clause-ready
returns-in-Put-clause-ready g c = subst (λ e. LeavesRoom e c.put.result c.put.new.self) (sym c.in-Put.is) tt

pub returns-in-Put-clause-sure : goal.returns-in-Put-clause-sure
returns-in-Put-clause-sure g c = subst (λ e. UsesRoom c.args.self.now e c.put.result) (sym c.in-Put.is) tt

pub returns-in-Report-clause-answers : goal.returns-in-Report-clause-answers
returns-in-Report-clause-answers g c = subst (λ e. Applies g.J.Job.key_of g.J.Job.gives c.args.self.now e c.report.result c.report.new.self) (sym c.in-Report.is) c.report.ensures.answers

pub returns-in-Report-clause-ready : goal.returns-in-Report-clause-ready
returns-in-Report-clause-ready g c = subst (λ e. LeavesRoom e c.report.result c.report.new.self) (sym c.in-Report.is) tt

pub returns-in-Report-clause-sure : goal.returns-in-Report-clause-sure
returns-in-Report-clause-sure g c = subst (λ e. UsesRoom c.args.self.now e c.report.result) (sym c.in-Report.is) tt

pub returns-in-Start-clause-answers : goal.returns-in-Start-clause-answers
returns-in-Start-clause-answers g c = subst (λ e. Applies g.J.Job.key_of g.J.Job.gives c.args.self.now e c.start.result c.start.new.self) (sym c.in-Start.is) c.start.ensures.answers

pub returns-in-Start-clause-ready : goal.returns-in-Start-clause-ready
returns-in-Start-clause-ready g c = subst (λ e. LeavesRoom e c.start.result c.start.new.self) (sym c.in-Start.is) tt

pub returns-in-Start-clause-sure : goal.returns-in-Start-clause-sure
returns-in-Start-clause-sure g c = subst (λ e. UsesRoom c.args.self.now e c.start.result) (sym c.in-Start.is) tt

pub returns-in-End-clause-answers : goal.returns-in-End-clause-answers
returns-in-End-clause-answers g c = subst (λ e. Applies g.J.Job.key_of g.J.Job.gives c.args.self.now e c.end.result c.end.new.self) (sym c.in-End.is) c.end.ensures.answers

pub returns-in-End-clause-ready : goal.returns-in-End-clause-ready
returns-in-End-clause-ready g c = subst (λ e. LeavesRoom e c.end.result c.end.new.self) (sym c.in-End.is) tt

pub returns-in-End-clause-sure : goal.returns-in-End-clause-sure
returns-in-End-clause-sure g c = subst (λ e. UsesRoom c.args.self.now e c.end.result) (sym c.in-End.is) tt

pub returns-in-Look-clause-answers : goal.returns-in-Look-clause-answers
returns-in-Look-clause-answers g c = subst (λ e. Applies g.J.Job.key_of g.J.Job.gives c.args.self.now e c.look.result c.look.new.self) (sym c.in-Look.is) c.look.ensures.answers

pub returns-in-Look-clause-ready : goal.returns-in-Look-clause-ready
returns-in-Look-clause-ready g c = subst (λ e. LeavesRoom e c.look.result c.look.new.self) (sym c.in-Look.is) tt

pub returns-in-Look-clause-sure : goal.returns-in-Look-clause-sure
returns-in-Look-clause-sure g c = subst (λ e. UsesRoom c.args.self.now e c.look.result) (sym c.in-Look.is) tt

pub returns-in-LookGroup-clause-answers : goal.returns-in-LookGroup-clause-answers
returns-in-LookGroup-clause-answers g c = subst (λ e. Applies g.J.Job.key_of g.J.Job.gives c.args.self.now e c.look_group.result c.look_group.new.self) (sym c.in-LookGroup.is) c.look_group.ensures.answers

pub returns-in-LookGroup-clause-ready : goal.returns-in-LookGroup-clause-ready
returns-in-LookGroup-clause-ready g c = subst (λ e. LeavesRoom e c.look_group.result c.look_group.new.self) (sym c.in-LookGroup.is) tt

pub returns-in-LookGroup-clause-sure : goal.returns-in-LookGroup-clause-sure
returns-in-LookGroup-clause-sure g c = subst (λ e. UsesRoom c.args.self.now e c.look_group.result) (sym c.in-LookGroup.is) tt

pub returns-in-LookHand-clause-answers : goal.returns-in-LookHand-clause-answers
returns-in-LookHand-clause-answers g c = subst (λ e. Applies g.J.Job.key_of g.J.Job.gives c.args.self.now e c.look_hand.result c.look_hand.new.self) (sym c.in-LookHand.is) c.look_hand.ensures.answers

pub returns-in-LookHand-clause-ready : goal.returns-in-LookHand-clause-ready
returns-in-LookHand-clause-ready g c = subst (λ e. LeavesRoom e c.look_hand.result c.look_hand.new.self) (sym c.in-LookHand.is) tt

pub returns-in-LookHand-clause-sure : goal.returns-in-LookHand-clause-sure
returns-in-LookHand-clause-sure g c = subst (λ e. UsesRoom c.args.self.now e c.look_hand.result) (sym c.in-LookHand.is) tt

pub returns-in-Draw-clause-answers : goal.returns-in-Draw-clause-answers
returns-in-Draw-clause-answers g c = subst (λ e. Applies g.J.Job.key_of g.J.Job.gives c.args.self.now e c.draw.result c.draw.new.self) (sym c.in-Draw.is) c.draw.ensures.answers

pub returns-in-Draw-clause-ready : goal.returns-in-Draw-clause-ready
returns-in-Draw-clause-ready g c = subst (λ e. LeavesRoom e c.draw.result c.draw.new.self) (sym c.in-Draw.is) tt

pub returns-in-Draw-clause-sure : goal.returns-in-Draw-clause-sure
returns-in-Draw-clause-sure g c = subst (λ e. UsesRoom c.args.self.now e c.draw.result) (sym c.in-Draw.is) tt

pub returns-in-Join-clause-answers : goal.returns-in-Join-clause-answers
returns-in-Join-clause-answers g c = subst (λ e. Applies g.J.Job.key_of g.J.Job.gives c.args.self.now e c.join.result c.join.new.self) (sym c.in-Join.is) c.join.ensures.answers

pub returns-in-Join-clause-ready : goal.returns-in-Join-clause-ready
returns-in-Join-clause-ready g c = subst (λ e. LeavesRoom e c.join.result c.join.new.self) (sym c.in-Join.is) tt

pub returns-in-Join-clause-sure : goal.returns-in-Join-clause-sure
returns-in-Join-clause-sure g c = subst (λ e. UsesRoom c.args.self.now e c.join.result) (sym c.in-Join.is) tt

pub returns-in-Give-clause-answers : goal.returns-in-Give-clause-answers
returns-in-Give-clause-answers g c = subst (λ e. Applies g.J.Job.key_of g.J.Job.gives c.args.self.now e c.give.result c.give.new.self) (sym c.in-Give.is) c.give.ensures.answers

pub returns-in-Give-clause-ready : goal.returns-in-Give-clause-ready
returns-in-Give-clause-ready g c = subst (λ e. LeavesRoom e c.give.result c.give.new.self) (sym c.in-Give.is) tt

pub returns-in-Give-clause-sure : goal.returns-in-Give-clause-sure
returns-in-Give-clause-sure g c = subst (λ e. UsesRoom c.args.self.now e c.give.result) (sym c.in-Give.is) tt

pub returns-in-Fetch-clause-answers : goal.returns-in-Fetch-clause-answers
returns-in-Fetch-clause-answers g c = subst (λ e. Applies g.J.Job.key_of g.J.Job.gives c.args.self.now e c.fetch.result c.fetch.new.self) (sym c.in-Fetch.is) c.fetch.ensures.answers

pub returns-in-Fetch-clause-ready : goal.returns-in-Fetch-clause-ready
returns-in-Fetch-clause-ready g c = subst (λ e. LeavesRoom e c.fetch.result c.fetch.new.self) (sym c.in-Fetch.is) tt

pub returns-in-Fetch-clause-sure : goal.returns-in-Fetch-clause-sure
returns-in-Fetch-clause-sure g c = subst (λ e. UsesRoom c.args.self.now e c.fetch.result) (sym c.in-Fetch.is) tt

pub returns-in-Claim-clause-answers : goal.returns-in-Claim-clause-answers
returns-in-Claim-clause-answers g c = subst (λ e. Applies g.J.Job.key_of g.J.Job.gives c.args.self.now e c.claim.result c.claim.new.self) (sym c.in-Claim.is) c.claim.ensures.answers

pub returns-in-Claim-clause-ready : goal.returns-in-Claim-clause-ready
returns-in-Claim-clause-ready g c = subst (λ e. LeavesRoom e c.claim.result c.claim.new.self) (sym c.in-Claim.is) tt

pub returns-in-Claim-clause-sure : goal.returns-in-Claim-clause-sure
returns-in-Claim-clause-sure g c = subst (λ e. UsesRoom c.args.self.now e c.claim.result) (sym c.in-Claim.is) tt

pub returns-in-Finish-clause-answers : goal.returns-in-Finish-clause-answers
returns-in-Finish-clause-answers g c = subst (λ e. Applies g.J.Job.key_of g.J.Job.gives c.args.self.now e c.finish.result c.finish.new.self) (sym c.in-Finish.is) c.finish.ensures.answers

pub returns-in-Finish-clause-ready : goal.returns-in-Finish-clause-ready
returns-in-Finish-clause-ready g c = subst (λ e. LeavesRoom e c.finish.result c.finish.new.self) (sym c.in-Finish.is) tt

pub returns-in-Finish-clause-sure : goal.returns-in-Finish-clause-sure
returns-in-Finish-clause-sure g c = subst (λ e. UsesRoom c.args.self.now e c.finish.result) (sym c.in-Finish.is) tt

pub returns-in-Ask-clause-answers : goal.returns-in-Ask-clause-answers
returns-in-Ask-clause-answers g c = subst (λ e. Applies g.J.Job.key_of g.J.Job.gives c.args.self.now e c.ask.result c.ask.new.self) (sym c.in-Ask.is) c.ask.ensures.answers

pub returns-in-Ask-clause-ready : goal.returns-in-Ask-clause-ready
returns-in-Ask-clause-ready g c = subst (λ e. LeavesRoom e c.ask.result c.ask.new.self) (sym c.in-Ask.is) tt

pub returns-in-Ask-clause-sure : goal.returns-in-Ask-clause-sure
returns-in-Ask-clause-sure g c = subst (λ e. UsesRoom c.args.self.now e c.ask.result) (sym c.in-Ask.is) tt

pub returns-in-Heed-clause-answers : goal.returns-in-Heed-clause-answers
returns-in-Heed-clause-answers g c = subst (λ e. Applies g.J.Job.key_of g.J.Job.gives c.args.self.now e c.heed.result c.heed.new.self) (sym c.in-Heed.is) c.heed.ensures.answers

pub returns-in-Heed-clause-ready : goal.returns-in-Heed-clause-ready
returns-in-Heed-clause-ready g c = subst (λ e. LeavesRoom e c.heed.result c.heed.new.self) (sym c.in-Heed.is) tt

pub returns-in-Heed-clause-sure : goal.returns-in-Heed-clause-sure
returns-in-Heed-clause-sure g c = subst (λ e. UsesRoom c.args.self.now e c.heed.result) (sym c.in-Heed.is) tt

pub returns-in-Settle-clause-answers : goal.returns-in-Settle-clause-answers
returns-in-Settle-clause-answers g c = subst (λ e. Applies g.J.Job.key_of g.J.Job.gives c.args.self.now e c.settle.result c.settle.new.self) (sym c.in-Settle.is) c.settle.ensures.answers

pub returns-in-Settle-clause-ready : goal.returns-in-Settle-clause-ready
returns-in-Settle-clause-ready g c = subst (λ e. LeavesRoom e c.settle.result c.settle.new.self) (sym c.in-Settle.is) tt

pub returns-in-Settle-clause-sure : goal.returns-in-Settle-clause-sure
returns-in-Settle-clause-sure g c = subst (λ e. UsesRoom c.args.self.now e c.settle.result) (sym c.in-Settle.is) tt

pub returns-in-Open-clause-answers : goal.returns-in-Open-clause-answers
returns-in-Open-clause-answers g c = subst (λ e. Applies g.J.Job.key_of g.J.Job.gives c.args.self.now e c.open.result c.open.new.self) (sym c.in-Open.is) c.open.ensures.answers

pub returns-in-Open-clause-ready : goal.returns-in-Open-clause-ready
returns-in-Open-clause-ready g c = subst (λ e. LeavesRoom e c.open.result c.open.new.self) (sym c.in-Open.is) tt

pub returns-in-Open-clause-sure : goal.returns-in-Open-clause-sure
returns-in-Open-clause-sure g c = subst (λ e. UsesRoom c.args.self.now e c.open.result) (sym c.in-Open.is) tt

pub returns-in-Count-clause-answers : goal.returns-in-Count-clause-answers
returns-in-Count-clause-answers g c = subst (λ e. Applies g.J.Job.key_of g.J.Job.gives c.args.self.now e c.count.result c.count.new.self) (sym c.in-Count.is) c.count.ensures.answers

pub returns-in-Count-clause-ready : goal.returns-in-Count-clause-ready
returns-in-Count-clause-ready g c = subst (λ e. LeavesRoom e c.count.result c.count.new.self) (sym c.in-Count.is) tt

pub returns-in-Count-clause-sure : goal.returns-in-Count-clause-sure
returns-in-Count-clause-sure g c = subst (λ e. UsesRoom c.args.self.now e c.count.result) (sym c.in-Count.is) tt

pub returns-in-Turn-clause-answers : goal.returns-in-Turn-clause-answers
returns-in-Turn-clause-answers g c = subst (λ e. Applies g.J.Job.key_of g.J.Job.gives c.args.self.now e c.turn.result c.turn.new.self) (sym c.in-Turn.is) c.turn.ensures.answers

pub returns-in-Turn-clause-ready : goal.returns-in-Turn-clause-ready
returns-in-Turn-clause-ready g c = subst (λ e. LeavesRoom e c.turn.result c.turn.new.self) (sym c.in-Turn.is) tt

pub returns-in-Turn-clause-sure : goal.returns-in-Turn-clause-sure
returns-in-Turn-clause-sure g c = subst (λ e. UsesRoom c.args.self.now e c.turn.result) (sym c.in-Turn.is) tt

pub returns-in-Pass-clause-answers : goal.returns-in-Pass-clause-answers
returns-in-Pass-clause-answers g c = subst (λ e. Applies g.J.Job.key_of g.J.Job.gives c.args.self.now e c.pass.result c.pass.new.self) (sym c.in-Pass.is) c.pass.ensures.answers

pub returns-in-Pass-clause-ready : goal.returns-in-Pass-clause-ready
returns-in-Pass-clause-ready g c = subst (λ e. LeavesRoom e c.pass.result c.pass.new.self) (sym c.in-Pass.is) tt

pub returns-in-Pass-clause-sure : goal.returns-in-Pass-clause-sure
returns-in-Pass-clause-sure g c = subst (λ e. UsesRoom c.args.self.now e c.pass.result) (sym c.in-Pass.is) tt

pub returns-in-Shut-clause-answers : goal.returns-in-Shut-clause-answers
returns-in-Shut-clause-answers g c = subst (λ e. Applies g.J.Job.key_of g.J.Job.gives c.args.self.now e c.shut.result c.shut.new.self) (sym c.in-Shut.is) c.shut.ensures.answers

pub returns-in-Shut-clause-ready : goal.returns-in-Shut-clause-ready
returns-in-Shut-clause-ready g c = subst (λ e. LeavesRoom e c.shut.result c.shut.new.self) (sym c.in-Shut.is) tt

pub returns-in-Shut-clause-sure : goal.returns-in-Shut-clause-sure
returns-in-Shut-clause-sure g c = subst (λ e. UsesRoom c.args.self.now e c.shut.result) (sym c.in-Shut.is) tt

pub returns-in-Urge-clause-answers : goal.returns-in-Urge-clause-answers
returns-in-Urge-clause-answers g c = subst (λ e. Applies g.J.Job.key_of g.J.Job.gives c.args.self.now e c.urge.result c.urge.new.self) (sym c.in-Urge.is) c.urge.ensures.answers

pub returns-in-Urge-clause-ready : goal.returns-in-Urge-clause-ready
returns-in-Urge-clause-ready g c = subst (λ e. LeavesRoom e c.urge.result c.urge.new.self) (sym c.in-Urge.is) tt

pub returns-in-Urge-clause-sure : goal.returns-in-Urge-clause-sure
returns-in-Urge-clause-sure g c = subst (λ e. UsesRoom c.args.self.now e c.urge.result) (sym c.in-Urge.is) tt

pub returns-in-Hear-clause-answers : goal.returns-in-Hear-clause-answers
returns-in-Hear-clause-answers g c = subst (λ e. Applies g.J.Job.key_of g.J.Job.gives c.args.self.now e c.hear.result c.hear.new.self) (sym c.in-Hear.is) c.hear.ensures.answers

pub returns-in-Hear-clause-ready : goal.returns-in-Hear-clause-ready
returns-in-Hear-clause-ready g c = subst (λ e. LeavesRoom e c.hear.result c.hear.new.self) (sym c.in-Hear.is) tt

pub returns-in-Hear-clause-sure : goal.returns-in-Hear-clause-sure
returns-in-Hear-clause-sure g c = subst (λ e. UsesRoom c.args.self.now e c.hear.result) (sym c.in-Hear.is) tt

pub returns-in-Leave-clause-answers : goal.returns-in-Leave-clause-answers
returns-in-Leave-clause-answers g c = subst (λ e. Applies g.J.Job.key_of g.J.Job.gives c.args.self.now e c.leave.result c.leave.new.self) (sym c.in-Leave.is) c.leave.ensures.answers

pub returns-in-Leave-clause-ready : goal.returns-in-Leave-clause-ready
returns-in-Leave-clause-ready g c = subst (λ e. LeavesRoom e c.leave.result c.leave.new.self) (sym c.in-Leave.is) tt

pub returns-in-Leave-clause-sure : goal.returns-in-Leave-clause-sure
returns-in-Leave-clause-sure g c = subst (λ e. UsesRoom c.args.self.now e c.leave.result) (sym c.in-Leave.is) tt

pub returns-in-Return-clause-answers : goal.returns-in-Return-clause-answers
returns-in-Return-clause-answers g c = subst (λ e. Applies g.J.Job.key_of g.J.Job.gives c.args.self.now e c.come_back.result c.come_back.new.self) (sym c.in-Return.is) c.come_back.ensures.answers

pub returns-in-Return-clause-ready : goal.returns-in-Return-clause-ready
returns-in-Return-clause-ready g c = subst (λ e. LeavesRoom e c.come_back.result c.come_back.new.self) (sym c.in-Return.is) tt

pub returns-in-Return-clause-sure : goal.returns-in-Return-clause-sure
returns-in-Return-clause-sure g c = subst (λ e. UsesRoom c.args.self.now e c.come_back.result) (sym c.in-Return.is) tt

pub returns-in-Meet-clause-answers : goal.returns-in-Meet-clause-answers
returns-in-Meet-clause-answers g c = subst (λ e. Applies g.J.Job.key_of g.J.Job.gives c.args.self.now e c.meet.result c.meet.new.self) (sym c.in-Meet.is) c.meet.ensures.answers

pub returns-in-Meet-clause-ready : goal.returns-in-Meet-clause-ready
returns-in-Meet-clause-ready g c = subst (λ e. LeavesRoom e c.meet.result c.meet.new.self) (sym c.in-Meet.is) tt

pub returns-in-Meet-clause-sure : goal.returns-in-Meet-clause-sure
returns-in-Meet-clause-sure g c = subst (λ e. UsesRoom c.args.self.now e c.meet.result) (sym c.in-Meet.is) tt

pub returns-in-Cpu-clause-answers : goal.returns-in-Cpu-clause-answers
returns-in-Cpu-clause-answers g c =
    subst (λ e. Applies g.J.Job.key_of g.J.Job.gives c.args.self.now e c.need_own.result c.need_own.new.self) (sym (c.in-Need.is ∙ ap Need c.in-Cpu.is)) c.need_own.ensures.answers

pub returns-in-Cpu-clause-ready : goal.returns-in-Cpu-clause-ready
returns-in-Cpu-clause-ready g c = subst (λ e. LeavesRoom e c.need_own.result c.need_own.new.self) (sym (c.in-Need.is ∙ ap Need c.in-Cpu.is)) tt

pub returns-in-Cpu-clause-sure : goal.returns-in-Cpu-clause-sure
returns-in-Cpu-clause-sure g c = subst (λ e. UsesRoom c.args.self.now e c.need_own.result) (sym (c.in-Need.is ∙ ap Need c.in-Cpu.is)) tt

pub returns-in-Group-clause-answers : goal.returns-in-Group-clause-answers
returns-in-Group-clause-answers g c =
    subst (λ e. Applies g.J.Job.key_of g.J.Job.gives c.args.self.now e c.need_group.result c.need_group.new.self) (sym (c.in-Need.is ∙ ap Need c.in-Group.is)) c.need_group.ensures.answers

pub returns-in-Group-clause-ready : goal.returns-in-Group-clause-ready
returns-in-Group-clause-ready g c = subst (λ e. LeavesRoom e c.need_group.result c.need_group.new.self) (sym (c.in-Need.is ∙ ap Need c.in-Group.is)) tt

pub returns-in-Group-clause-sure : goal.returns-in-Group-clause-sure
returns-in-Group-clause-sure g c = subst (λ e. UsesRoom c.args.self.now e c.need_group.result) (sym (c.in-Need.is ∙ ap Need c.in-Group.is)) tt
