use Rattle.std.proofs.Common.{◌≡◌, ◌∷◌, ◌∙◌, length, take, drop, get_or, ap, refl, sym}
use Rattle.std.proofs.lemmas.Bool.{false≢true}
use Rattle.std.proofs.lemmas.List.{take_at, drop_at}
use Rattle.rcu_lists.specs.Blocks.{blocks_items}
use Rattle.rcu_lists.specs.Parcels.{places_items}
use Rattle.rcu_lists.proofs.chain.load_first.Goals as goal

pub returns-in_default-clause-loaded : goal.returns-in_default-clause-loaded
returns-in_default-clause-loaded g c = λ e. absurd (false≢true e)

pub returns-in_default-clause-refused : goal.returns-in_default-clause-refused
returns-in_default-clause-refused g c = λ _. (c.requires.none, refl)

pub returns-then-len-number-clause-loaded : goal.returns-then-len-number-clause-loaded
returns-then-len-number-clause-loaded g c = λ e. absurd (false≢true e)

pub returns-then-len-number-clause-refused : goal.returns-then-len-number-clause-refused
returns-then-len-number-clause-refused g c = λ _. (c.requires.none, refl)

pub load-requires : goal.load-requires
load-requires g c = (assumption, c.requires.none)

pub returns-in-Some-pop_front-clause-refused : goal.returns-in-Some-pop_front-clause-refused
returns-in-Some-pop_front-clause-refused g c = λ e. absurd (false≢true (sym e))

pub returns-in-None-clause-loaded : goal.returns-in-None-clause-loaded
returns-in-None-clause-loaded g c = λ e. absurd (false≢true e)

pub returns-in-Some-pop_front-clause-loaded : goal.returns-in-Some-pop_front-clause-loaded
returns-in-Some-pop_front-clause-loaded g c = λ _. let n = c.args.number in let block = c.in-Some-pop_front.block in let rest = c.pop_front.new.self.items in
    let e : c.args.blocks.now.items ≡ block ∷ rest = c.in-Some-pop_front.ensures.items in
    let first : c.in-Some.first.now ≡ block = c.in-Some.ensures.lookup ∙ ap (λ l. get_or l 0 c.in-Some.first.now) e in
    let len : length (places_items block) ≡ n = ap (λ b. length (places_items b)) (sym first) ∙ sym c.len.ensures ∙ c.if-len-number.false in (
      c.load.ensures.items ∙ sym (ap (λ bs. take n (blocks_items bs)) e ∙ take_at (places_items block) (blocks_items rest) n len),
      sym (ap (λ bs. drop n (blocks_items bs)) e ∙ drop_at (places_items block) (blocks_items rest) n len),
    )

pub returns-in-None-clause-refused : goal.returns-in-None-clause-refused
returns-in-None-clause-refused g c = λ _. (c.requires.none, ap blocks_items (sym c.in-None.ensures.items))
