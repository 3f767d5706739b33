-- What `close` answers, as the accounts that a history may agree with: docs/specification/definitions.md, "Agreeing".
use Rattle.std.specs.Prelude.{◌≡◌, ℕ, ◌/◌, ◌%◌, ◌==◌, Bool, List, ◌∷◌, ◌++◌, map}
use Rattle.std.specs.List.{filter}
use Rattle.rcu_agreement.specs.Accounts.{Account}
use Rattle.rcu_board.specs.Seats.{SawShut, reports_of}
use Rattle.rcu_board.specs.Views.{seen_at}
use Rattle.rcu_board.specs.Words.{accepts_word, turns_word}
use Rattle.rcu_board.specs.declared.view.View.{View}
use Rattle.rcu_part_close.specs.Closing.{CpuEnd, calls_left, seats_of}
use Rattle.rcu_part_control.specs.Parts.{control_view}
use Rattle.rcu_part_order.specs.Places.{keys_of}
use Rattle.rcu_part_steps.specs.Places.{accepted_list}
use Rattle.rcu_parts.specs.AtClose.{other_views}
use Rattle.rcu_parts.specs.OneOpen.{Parts}

-- how many of the callbacks of processor p had run, as each seat saw it: half of T_p
abbrev pub turns_seen : ℕ → List View → List ℕ
turns_seen p views = map (λ v. seen_at v (turns_word p) / 2) views

abbrev pub saw_shut : ℕ → View → Bool
saw_shut p v = seen_at v (accepts_word p) % 2 == 1

-- how many p had accepted, as each seat saw it that saw A_p odd: half of it
abbrev pub shuts_seen : ℕ → List View → List ℕ
shuts_seen p views = map (λ v. seen_at v (accepts_word p) / 2) (filter (saw_shut p) views)

-- The view saw processor p shut, with so many accepted.
abbrev pub SawShutAt : ℕ → ℕ → View → Type 0
SawShutAt p count v = SawShut p v × (seen_at v (accepts_word p) / 2 ≡ count)

module _ {J R : Type 0} where
  -- the views of all seats
  abbrev pub views_at_close : Parts J R → List (CpuEnd J R) → List View
  views_at_close parts ends = control_view parts.control ∷ (other_views parts ++ seats_of ends)

  -- one processor: what it accepted, all that ran of it, also where its record was taken out or never kept, and what is left
  abbrev pub account_of : List View → CpuEnd J R → Account
  account_of views e = record {
    keys = keys_of (accepted_list e.part.view);
    stamps = map (λ a. a.stamp) (accepted_list e.part.view);
    ran = map (λ r. r.key) e.ran;
    readies = map (λ r. r.ready) e.ran;
    back = map (λ c. c.key) (calls_left e);
    reports = reports_of e.part.view;
    turns = turns_seen e.part.cpu views;
    shuts = shuts_seen e.part.cpu views;
  }

  abbrev pub accounts_of : Parts J R → List (CpuEnd J R) → List Account
  accounts_of parts ends = map (account_of (views_at_close parts ends)) ends
