-- All parts stay the same parts, and sound, where those of one kind do and no other changes; and where one change follows another.
use Rattle.std.proofs.Common.{◌≡◌, ℕ, Option, IfSome, All, subst, sym}
use Rattle.std.specs.Global.{Vec}
use Rattle.std.specs.List.{AllZip}
use Rattle.rcu_part_control.specs.Parts.{control_board, control_seat, driver_board, driver_seat, SameControl, SameDriver}
use Rattle.rcu_part_control.specs.declared.control.Control.{Control}
use Rattle.rcu_part_control.specs.declared.barrier.Barrier.{Barrier}
use Rattle.rcu_part_control.specs.declared.driver.Driver.{Driver}
use Rattle.rcu_board.specs.declared.board.Board.{Board}
use Rattle.rcu_part_group.specs.Groups.{SameGroup}
use Rattle.rcu_part_hand.specs.Hands.{IsSoundHand, SameHand}
use Rattle.rcu_part_group.specs.declared.group.Group.{Group}
use Rattle.rcu_part_hand.specs.declared.hand.Hand.{Hand}
use Rattle.rcu_part_group.proofs.GroupTurns.{same_group, same_group_again}
use Rattle.rcu_part_hand.proofs.HandRuns.{same_hand, same_hand_again}
use Rattle.rcuo_replay.proofs.Presences.{same_presence, same_presence_again}
use Rattle.rcuo_replay.specs.Presences.{IsSoundPresence, SamePresence, ScriptProcessor}
use Rattle.rcuo_replay.specs.ScriptParts.{KeepsParts, SameScriptParts, ScriptParts}
use Rattle.rcu_board.proofs.Stepping.{same_again, same_part}
use Rattle.rcu_lemmas.proofs.Zips.{zip_again, zip_same}

-- A barrier that is open stays one of this board.
pub stays_ours : (opened : Option Barrier) (b c : Board) → c ≡ b → IfSome opened (λ x. b.processors ≡ x.counts.n) → IfSome opened (λ x. c.processors ≡ x.counts.n)
stays_ours opened b c same h = subst (λ z. IfSome opened (λ x. z.processors ≡ x.counts.n)) (sym same) h

module _ {J R : Type 0} (key_of : J → ℕ) (gives : ℕ → R → Type 0) (old : ScriptParts J R) where
  all_same : SameScriptParts old old
  all_same = record {
    control = same_part (control_board old.control) (control_seat old.control);
    driver = same_part (driver_board old.driver) (driver_seat old.driver);
    processors = zip_same SamePresence same_presence old.processors.items;
    groups = zip_same (λ g h. SameGroup g.state h.state) (λ g. same_group g.state) old.groups.items;
    hands = zip_same (λ h i. SameHand h.state i.state) (λ h. same_hand h.state) old.hands.items;
  }

  pub all_kept : KeepsParts key_of gives old old
  all_kept = record { same = all_same; sound = λ s. s }

  pub processors_kept : (ps : Vec (ScriptProcessor J R)) → AllZip SamePresence old.processors.items ps.items
      → (All (IsSoundPresence key_of gives) old.processors.items → All (IsSoundPresence key_of gives) ps.items)
      → KeepsParts key_of gives old (record old { processors = ps })
  processors_kept ps z f = record {
    same = record { control = all_same.control; driver = all_same.driver; processors = z; groups = all_same.groups; hands = all_same.hands };
    sound = λ s. record { processors = f s.processors; hands = s.hands };
  }

  pub groups_kept : (gs : Vec (Group J R)) → AllZip (λ g h. SameGroup g.state h.state) old.groups.items gs.items → KeepsParts key_of gives old (record old { groups = gs })
  groups_kept gs z = record {
    same = record { control = all_same.control; driver = all_same.driver; processors = all_same.processors; groups = z; hands = all_same.hands };
    sound = λ s. record { processors = s.processors; hands = s.hands };
  }

  pub hands_kept : (hs : Vec (Hand J R)) → AllZip (λ h i. SameHand h.state i.state) old.hands.items hs.items
      → (All (λ h. IsSoundHand key_of gives h.state) old.hands.items → All (λ h. IsSoundHand key_of gives h.state) hs.items)
      → KeepsParts key_of gives old (record old { hands = hs })
  hands_kept hs z f = record {
    same = record { control = all_same.control; driver = all_same.driver; processors = all_same.processors; groups = all_same.groups; hands = z };
    sound = λ s. record { processors = s.processors; hands = f s.hands };
  }

  pub driver_kept : (d : Driver) → SameDriver old.driver d → KeepsParts key_of gives old (record old { driver = d })
  driver_kept d s = record {
    same = record { control = all_same.control; driver = s; processors = all_same.processors; groups = all_same.groups; hands = all_same.hands };
    sound = λ s. record { processors = s.processors; hands = s.hands };
  }

  pub control_kept : (c : Control) → SameControl old.control c → KeepsParts key_of gives old (record old { control = c })
  control_kept c s = record {
    same = record { control = s; driver = all_same.driver; processors = all_same.processors; groups = all_same.groups; hands = all_same.hands };
    sound = λ s. record { processors = s.processors; hands = s.hands };
  }

  -- one change after another
  pub kept_again : (between new : ScriptParts J R) → KeepsParts key_of gives old between → KeepsParts key_of gives between new → KeepsParts key_of gives old new
  kept_again between new a b = record {
    same = record {
      control = same_again _ _ _ _ _ _ a.same.control b.same.control;
      driver = same_again _ _ _ _ _ _ a.same.driver b.same.driver;
      processors = zip_again SamePresence same_presence_again old.processors.items between.processors.items new.processors.items a.same.processors b.same.processors;
      groups = zip_again (λ g h. SameGroup g.state h.state) (λ g h i. same_group_again g.state h.state i.state) old.groups.items between.groups.items new.groups.items a.same.groups b.same.groups;
      hands = zip_again (λ h i. SameHand h.state i.state) (λ h i j. same_hand_again h.state i.state j.state) old.hands.items between.hands.items new.hands.items a.same.hands b.same.hands;
    };
    sound = λ s. b.sound (a.sound s);
  }
