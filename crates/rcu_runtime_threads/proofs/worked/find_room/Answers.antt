use Rattle.std.proofs.Common.{◌∙◌, refl, sym}
use Rattle.rcu_runtime_threads.proofs.worked.find_room.Goals as goal

pub new-requires-send-J : goal.new-requires-send-J
new-requires-send-J g c κs within = c.type_bounds.send-J

pub new-requires-send-W : goal.new-requires-send-W
new-requires-send-W g c κs within = c.type_bounds.send-W

pub new-requires-send-J-Receipt : goal.new-requires-send-J-Receipt
new-requires-send-J-Receipt g c κs within = c.type_bounds.send-J-Receipt

pub new-requires-after_bounds : goal.new-requires-after_bounds
new-requires-after_bounds g c κs within = assumption

pub returns-clause-posts : goal.returns-clause-posts
returns-clause-posts g c = c.in-Ok.ensures.posts

pub returns-clause-at_posts : goal.returns-clause-at_posts
returns-clause-at_posts g c = c.in-Ok.ensures.at_posts

pub returns-clause-halves : goal.returns-clause-halves
returns-clause-halves g c = c.in-Ok.ensures.halves

pub returns-clause-others : goal.returns-clause-others
returns-clause-others g c = c.in-Ok.ensures.others

pub returns-then-workers-processors-clause-fault : goal.returns-then-workers-processors-clause-fault
returns-then-workers-processors-clause-fault g c = let many = c.len-processors.ensures in (many, refl, λ e. c.if-workers-processors.true (sym e ∙ sym many))

pub returns-in_default-clause-fault : goal.returns-in_default-clause-fault
returns-in_default-clause-fault g c = c.if-workers-processors.false ∙ c.len-processors.ensures

pub returns-clause-many : goal.returns-clause-many
returns-clause-many g c = c.if-workers-processors.false ∙ c.len-processors.ensures
