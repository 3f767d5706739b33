-- A claim that ends and the next one, made by one step: the hand as it would stand between.
use Rattle.std.proofs.Common.{◌≡◌, ℕ, ◌+◌, ◌*◌, ◌≤◌, [], ◌∷◌, ◌++◌, None, Some, ap, sym, ◌∙◌, refl, subst, arith}
use Rattle.std.proofs.lemmas.List.{append-nil}
use Rattle.std.proofs.lemmas.Option.{none-some}
use Rattle.std.specs.Arc.{arc_value}
use Rattle.rcu_board.specs.Plays.{claiming, finished, looked}
use Rattle.rcu_board.specs.Roles.{MayClaim, cpu_of_role}
use Rattle.rcu_board.specs.Seats.{view, AtBoard, SameSeat, running_number, first_number}
use Rattle.rcu_board.specs.Views.{seen_at, sight}
use Rattle.rcu_board.specs.Words.{turns_word}
use Rattle.rcu_board.specs.declared.board.Role.{Role}
use Rattle.rcu_board.specs.declared.board.Role.TheVariants.{Hand}
use Rattle.rcu_board.specs.declared.board.Seat.{Seat}
use Rattle.rcu_board.specs.declared.view.View.{View}
use Rattle.rcu_board.proofs.Between.{ended, looked_ended, same_ended, same_ended_claiming, same_looked_ended}
use Rattle.rcu_board.proofs.Facts.{seen-other, words-at}
use Rattle.rcu_part_lists.specs.Helds.{drawn_by, held_by, taken_by}
use Rattle.rcu_part_order.specs.Recorded.{and_ran, ran_of, recorded}
use Rattle.rcu_part_order.specs.declared.recorded.Records.{Records}
use Rattle.rcu_part_steps.specs.Begins.{record_with}
use Rattle.rcu_part_steps.specs.Changes.{Claims, Finishes, GoesOn, StepsOnly}
use Rattle.rcu_part_steps.specs.declared.begins.ClaimedCallback.{ClaimedCallback}
use Rattle.rcu_part_steps.proofs.Claiming.{turn_near}
use Rattle.rcu_part_steps.proofs.GoingOn.{claims, claims_only, ends, ends_only, turn_off}
use Rattle.rcu_part_hand.specs.Begins.{FinishesHand}
use Rattle.rcu_part_hand.specs.Hands.{Loads, Looks, SameHand}
use Rattle.rcu_part_hand.specs.InPlace.{EndsRunning, resting}
use Rattle.rcu_part_hand.specs.declared.hand.HandState.{HandState}
use Rattle.rcu_part_hand.specs.declared.in_place.HandInPlaceState.{HandInPlaceState}
use Rattle.rcu_part_hand.proofs.HandBegins.{hand_finished}
use Rattle.rcu_part_hand.proofs.HandRuns.{all_as, hand_watched, kept_as}
use Rattle.rcu_part_hand.proofs.InPlace.{some_is}

-- While the claim of k runs: a look led from the hand's seat to the next one, and a step that ends the claim and claims the next to the third; and
-- the record of k was added.
pub record Passes {J R : Type 0} (p : HandInPlaceState J R) (k : ClaimedCallback) (receipt : R) (s1 s2 : Seat) (seen : ℕ) (ran : Records R) : Type 0 where
  pub runs : p.claimed ≡ Some k
  pub same : SameSeat p.hand.seat s1
  pub step : view s1 ≡ looked seen (view p.hand.seat)
  pub claims : (view s1).claims ≡ (view p.hand.seat).claims
  pub running : (view s1).running ≡ (view p.hand.seat).running
  pub sight : seen ≡ sight (view s1)
  pub same_then : SameSeat s1 s2
  pub goes : GoesOn (cpu_of_role s1.role) (running_number (view s1)) (view s1) (view s2)
  pub added : recorded ran ≡ and_ran (record_with receipt k ∷ []) (recorded p.hand.ran)

module _ {J R : Type 0} {p : HandInPlaceState J R} {k : ClaimedCallback} {receipt : R} {s1 s2 : Seat} {seen : ℕ} {ran : Records R} (h : Passes p k receipt s1 s2 seen ran) where
  abbrev pub word : ℕ
  word = turns_word p.hand.cpu

  abbrev pub freed : ℕ
  freed = 2 * k.number + 2

  pub at1 : AtBoard (arc_value p.hand.board) s1
  at1 = h.same.table ∙ p.hand.here

  pub role1 : s1.role ≡ Hand p.hand.cpu
  role1 = h.same.role ∙ p.hand.role

  pub may : (s : Seat) → s.role ≡ Hand p.hand.cpu → MayClaim s.role
  may s is = subst MayClaim (sym is) tt

  pub number : running_number (view s1) ≡ k.number
  number = ap first_number (h.running ∙ (p.runs k h.runs).lawful.runs)

  pub went : view s2 ≡ claiming word (2 * (k.number + 1) + 1) p.hand.cpu (k.number + 1) (finished word freed (view s1))
  went = let cpu : cpu_of_role s1.role ≡ p.hand.cpu = ap cpu_of_role role1 in
      h.goes.view ∙ (λ j. claiming (turns_word (cpu j)) (2 * (number j + 1) + 1) (cpu j) (number j + 1) (finished (turns_word (cpu j)) (2 * number j + 2) (view s1)))

  pub later1 : seen_at (view s1) word ≤ freed
  later1 = let cpu : seen_at (view s1) (turns_word (cpu_of_role s1.role)) ≡ seen_at (view s1) word = ap (λ (s : Role). seen_at (view s1) (turns_word (cpu_of_role s))) role1 in omega (arith, h.goes.later, cpu, number)

  pub later0 : seen_at (view p.hand.seat) word ≤ freed
  later0 = let same : seen_at (view s1) word ≡ seen_at (view p.hand.seat) word = ap (λ (v : View). seen_at v word) h.step ∙ seen-other (view p.hand.seat) 0 word seen (turn_off p.hand.cpu) in omega (arith, same, later1)

  abbrev pub seat0 : Seat
  seat0 = ended p.hand.seat word freed (turn_off p.hand.cpu)

  abbrev pub seat1 : Seat
  seat1 = ended s1 word freed (turn_off p.hand.cpu)

  pub all : ran_of ran ≡ ran_of p.hand.ran ++ record_with receipt k ∷ []
  all = all_as _ _ h.added

  pub ends0 : Finishes (view p.hand.seat) (view seat0)
  ends0 = ends (arc_value p.hand.board) p.hand.seat p.hand.here (may p.hand.seat p.hand.role) p.hand.cpu freed (ap cpu_of_role p.hand.role)

  -- the hand once the claim has ended
  abbrev pub between : HandInPlaceState J R
  between = record {
    claimed = None;
    hand = record p.hand { seat = seat0; ran = ran };
    rests = λ _. hand_finished p.hand.cpu k receipt (view p.hand.seat) (view seat0) (ran_of p.hand.ran) (ran_of ran) (taken_by p.hand.held) ends0 all (p.runs k h.runs).lawful;
    runs = λ c f. absurd (none-some c f);
  }

  -- and once it has looked
  abbrev pub looking : HandState J R
  looking = record {
    hand = record p.hand { seat = seat1; ran = ran; here = at1; role = role1 };
    lawful = hand_watched p.hand.cpu (view seat0) (view seat1) (ran_of ran) (taken_by p.hand.held) h.claims refl (between.rests refl);
  }

  pub finishes : EndsRunning (FinishesHand receipt) p between
  finishes = λ c f. (
    refl,
    record { part = record { board = refl; seat = same_ended p.hand.seat p.hand.cpu freed (turn_off p.hand.cpu) later0 }; lane = refl; cpu = refl; blimit = refl; kept = kept_as _ _ h.added },
    record {
      records = h.added ∙ ap (λ (x : ClaimedCallback). and_ran (record_with receipt x ∷ []) (recorded p.hand.ran)) (some_is k c (sym h.runs ∙ f));
      held = refl;
      ends = ends0;
      steps = ends_only (arc_value p.hand.board) p.hand.seat p.hand.here (may p.hand.seat p.hand.role) p.hand.cpu freed (ap cpu_of_role p.hand.role);
    },
  )

  pub same_looking : (f : between.claimed ≡ None) → SameHand (resting between f) looking
  same_looking f = record { part = record { board = refl; seat = same_looked_ended p.hand.seat s1 word freed seen (turn_off p.hand.cpu) h.same h.step }; lane = refl; cpu = refl; blimit = refl; kept = refl }

  pub looks : (f : between.claimed ≡ None) → Looks seen (resting between f) looking
  looks f = record {
    step = ap (finished word freed) h.step ∙ looked_ended word freed seen (view p.hand.seat) (turn_off p.hand.cpu);
    sight = seen-other (view s1) word 0 freed (λ z. turn_off p.hand.cpu (sym z)) ∙ sym h.sight;
    held = refl;
    drawn = refl;
    records = refl;
  }

  pub loads : Loads looking looking
  loads = record {
    batch = [];
    drawn = sym (append-nil (drawn_by p.hand.held));
    held = sym (append-nil (held_by p.hand.held));
    only = λ _. refl;
    view = refl;
    records = refl;
  }

  pub same_claimed : SameSeat seat1 s2
  same_claimed = same_ended_claiming s1 s2 p.hand.cpu freed (2 * (k.number + 1) + 1) (k.number + 1) (turn_off p.hand.cpu) h.same_then.role h.same_then.table
      (let n = turn_near (arc_value p.hand.board) s1 at1 (may s1 role1) in let fit = words-at (arc_value p.hand.board) s1 at1 in let cpu : turns_word (cpu_of_role s1.role) ≡ word = ap (λ (s : Role). turns_word (cpu_of_role s)) role1 in omega (arith, n, fit, cpu)) (omega arith) went

  pub won : Claims p.hand.cpu (k.number + 1) (view seat1) (view s2)
  won = claims (arc_value p.hand.board) s1 at1 (may s1 role1) p.hand.cpu freed (ap cpu_of_role role1) (2 * (k.number + 1) + 1) (k.number + 1) (view s2) went

  pub won_only : StepsOnly word 1 (view seat1) (view s2)
  won_only = claims_only (arc_value p.hand.board) s1 at1 (may s1 role1) p.hand.cpu freed (ap cpu_of_role role1) (2 * (k.number + 1) + 1) (k.number + 1) (view s2) went
