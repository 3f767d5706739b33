use Rattle.std.proofs.Common.{ap, sym, ◌∙◌, subst, refl}
use Rattle.std.specs.List.{flat_map}
use Rattle.rcu_lanes.specs.Ends.{items_drawn}
use Rattle.rcu_lists.specs.Parcels.{parcel_items}
use Rattle.rcu_part_lists.specs.Limits.{AreFew, AreSafe}
use Rattle.rcu_part_lists.proofs.Releases.{flat-snoc, parcel-put}
use Rattle.rcu_jobs.specs.declared.Stop.TheVariants.{Again, Empty}
use Rattle.rcu_part_lists.proofs.Fetches.{some≢none}
use Rattle.rcu_part_lists.proofs.lane_ends.Inlet.draw_into.Goals as goal

pub returns-in-Got-clause-allowed : goal.returns-in-Got-clause-allowed
returns-in-Got-clause-allowed g c = λ _.
    let a = c.in-Got.ensures.allowed in
    let e = ap (flat_map parcel_items) c.in-Got.ensures.drawn ∙ flat-snoc (items_drawn c.args.self.now.front) c.in-Got.parcel in
    (subst AreSafe (sym c.load.ensures.items) a.safe, subst AreFew (sym e) a.few)

pub load-requires : goal.load-requires
load-requires g c = (assumption, c.requires.none)

pub returns-in-Got-clause-lane : goal.returns-in-Got-clause-lane
returns-in-Got-clause-lane g c = c.draw.ensures.lane

pub returns-in-Got-clause-drawn : goal.returns-in-Got-clause-drawn
returns-in-Got-clause-drawn g c = λ _. parcel-put (items_drawn c.args.self.now.front) (items_drawn c.draw.new.self) c.in-Got.parcel c.in-Got.ensures.drawn (sym c.load.ensures.items)

pub returns-in-Got-clause-none : goal.returns-in-Got-clause-none
returns-in-Got-clause-none g c = λ n. absurd (n refl)

pub returns-in-Empty-clause-lane : goal.returns-in-Empty-clause-lane
returns-in-Empty-clause-lane g c = c.draw.ensures.lane

pub returns-in-Empty-clause-drawn : goal.returns-in-Empty-clause-drawn
returns-in-Empty-clause-drawn g c = λ e. absurd (some≢none Empty e)

pub returns-in-Empty-clause-allowed : goal.returns-in-Empty-clause-allowed
returns-in-Empty-clause-allowed g c = λ e. absurd (some≢none Empty e)

pub returns-in-Empty-clause-none : goal.returns-in-Empty-clause-none
returns-in-Empty-clause-none g c = λ _. (c.in-Empty.ensures.drawn, c.requires.none)

pub returns-in-Again-clause-lane : goal.returns-in-Again-clause-lane
returns-in-Again-clause-lane g c = c.draw.ensures.lane

pub returns-in-Again-clause-drawn : goal.returns-in-Again-clause-drawn
returns-in-Again-clause-drawn g c = λ e. absurd (some≢none Again e)

pub returns-in-Again-clause-allowed : goal.returns-in-Again-clause-allowed
returns-in-Again-clause-allowed g c = λ e. absurd (some≢none Again e)

pub returns-in-Again-clause-none : goal.returns-in-Again-clause-none
returns-in-Again-clause-none g c = λ _. (c.in-Again.ensures.drawn, c.requires.none)

pub returns-in-Got-clause-stops : goal.returns-in-Got-clause-stops
returns-in-Got-clause-stops g c = tt

pub returns-in-Empty-clause-stops : goal.returns-in-Empty-clause-stops
returns-in-Empty-clause-stops g c = tt

pub returns-in-Again-clause-stops : goal.returns-in-Again-clause-stops
returns-in-Again-clause-stops g c = tt
