-- How a group keeps its law, and what its turn comes to.
use Rattle.std.proofs.Common.{◌≡◌, ◌⊎◌, inl, inr, ℕ, ◌+◌, ◌*◌, sum, ◌<◌, ◌≤◌, Bool, true, false, IsTrue, cond, List, [], ◌∷◌, ◌++◌, map, length, length-append, append-nil, append_assoc, Option, Some, None, IfSome, ap, sym, ◌∙◌, refl, subst, arith}
use Rattle.std.specs.List.{All, AllPairs, AllZip}
use Rattle.std.proofs.Math.Nat.{mul-suc}
use Rattle.std.proofs.lemmas.List.{append_cancel_left}
use Rattle.std.proofs.lemmas.List.Elements.{All-nil, All-cons, All-tail, All-append, All-weaker, length_all_zip}
use Rattle.std.proofs.lemmas.List.Sums.{sum_by-cons}
use Rattle.rcu_board.specs.Plays.{looked, stamp_own, touched}
use Rattle.rcu_board.specs.Seats.{view, AtBoard, NeverFalls, SameSeat}
use Rattle.rcu_board.specs.Views.{seen_at, sight}
use Rattle.rcu_board.specs.Words.{needed_word}
use Rattle.rcu_board.specs.declared.board.Board.{Board as Table}
use Rattle.rcu_board.specs.declared.board.Seat.{Seat}
use Rattle.rcu_board.specs.declared.view.View.{View}
use Rattle.rcu_board.proofs.Stepping.{same_again}
use Rattle.rcu_board.specs.Frames.{IsBare, KeepsLists}
use Rattle.rcu_part_lists.specs.Aims.{AreUpTo, is_up_to, aim, wanted, looked as list_looked}
use Rattle.rcu_part_lists.specs.MemberLists.{most_batches, Relay, relay, front_of, rear_of, TakesIn, after_look, Gives, GivesSome, Loads, Hands}
use Rattle.rcu_part_lists.proofs.Aims.{up-raised, look-needed}
use Rattle.rcu_part_lists.specs.declared.member_lists.MemberLists.{MemberLists}
use Rattle.rcu_jobs.specs.declared.callback.Callback.{Callback}
use Rattle.rcu_lanes.specs.Ends.{SameFront, SameRear}
use Rattle.rcu_lists.specs.Labels.{Labelled, Done, Bare, marked, callbacks_of, carries}
use Rattle.rcu_part_group.specs.Each.{Each, Sums}
use Rattle.rcu_part_group.specs.GroupLaw.{AreMembers, IsLawfulGroup, relay_of}
use Rattle.rcu_part_group.specs.Groups.{GivesTo, IsEmptyGroupMember, LooksAt, LooksAtAll, PassesOn, SameGroupMember, SameGroup, TakesFrom, held_of, members_of}
use Rattle.rcu_part_group.specs.declared.members.GroupMember.{GroupMember}
use Rattle.rcu_part_group.specs.declared.group.GroupState.{GroupState}
use Rattle.rcu_part_group.proofs.GroupLists.{each_all, each_zip, greatest_upto}
use Rattle.rcu_board.proofs.Facts.{same_seat}
use Rattle.rcu_lemmas.proofs.Zips.{zip_again, zip_map, zip_same}

-- what holds of each
always : {A : Type 0} (xs : List A) → All (λ (x : A). Unit {0}) xs
always xs k d low = tt

-- the number wanted, where some callback waits for it
wants_upto : (t aimed : ℕ) (b : Bool) → IfSome (cond b (Some aimed) None) (λ n. n ≤ t) → b ≡ true → aimed ≤ t
wants_upto t aimed true h e = h
wants_upto t aimed false h e = (let f : true ≡ false = sym e in cc)

-- a look, and an ask
bare_looked : (r : ℕ) (v w : View) → KeepsLists (looked r v) w → IsBare v → IsBare w
bare_looked r v w k b = record { own = k.own ∙ ap (map (stamp_own r)) b.own; claims = k.claims ∙ b.claims; running = k.running ∙ b.running }

module _ {J : Type 0} where
  -- ---- one member

  -- lists that only get callbacks with no number, or lose done ones
  bare_upto : (s : ℕ) (cs : List (Callback J)) → AreUpTo s (marked Bare cs)
  bare_upto s [] = All-nil (λ (x : Labelled J). IsTrue (is_up_to s x.label))
  bare_upto s (c ∷ cs) = All-cons (λ (x : Labelled J). IsTrue (is_up_to s x.label)) (record { label = Bare; callback = c }) (marked Bare cs) refl (bare_upto s cs)

  takes_upto : (s most took : ℕ) (o n : Relay J) → TakesIn most took o n → AreUpTo s o.list → AreUpTo s n.list
  takes_upto s most took o n t h = subst (λ (xs : List (Labelled J)). AreUpTo s xs) (sym t.list) (All-append (λ (x : Labelled J). IsTrue (is_up_to s x.label)) o.list (marked Bare t.joining) h (bare_upto s t.joining))

  left_upto : (s : ℕ) (xs ys : List (Labelled J)) → AreUpTo s (xs ++ ys) → AreUpTo s ys
  left_upto s [] ys h = h
  left_upto s (x ∷ xs) ys h = left_upto s xs ys (All-tail (λ (z : Labelled J). IsTrue (is_up_to s z.label)) x (xs ++ ys) h)

  loads_upto : (s most : ℕ) (o n : Relay J) → (n ≡ o) ⊎ Loads most o n → AreUpTo s o.list → AreUpTo s n.list
  loads_upto s most o n (inl e) h = subst (λ (r : Relay J). AreUpTo s r.list) (sym e) h
  loads_upto s most o n (inr l) h = left_upto s (marked Done n.out) n.list (subst (λ (xs : List (Labelled J)). AreUpTo s xs) l.front h)

  hands_list : (gave : ℕ) (o n : Relay J) → Hands gave o n → n.list ≡ o.list
  hands_list gave o n (inl p) = ap (λ (r : Relay J). r.list) p.1
  hands_list gave o n (inr p) = ap (λ (r : Relay J). r.list) p.1

  gives_upto : (s most gave : ℕ) (o n : Relay J) → Gives most gave o n → AreUpTo s o.list → AreUpTo s n.list
  gives_upto s most gave o n g h = subst (λ (xs : List (Labelled J)). AreUpTo s xs) (sym (hands_list gave g.between n g.hands)) (loads_upto s most o g.between g.loads h)

  -- what isn't changed
  takes_advanced : (most took : ℕ) (o n : Relay J) → TakesIn most took o n → n.advanced ≡ o.advanced
  takes_advanced most took o n t = ap (λ (r : Relay J). r.advanced) t.others

  loads_keeps : (most : ℕ) (o n : Relay J) → (n ≡ o) ⊎ Loads most o n → (n.advanced ≡ o.advanced) × (n.received ≡ o.received) × (n.put ≡ o.put)
  loads_keeps most o n (inl e) = (ap (λ (r : Relay J). r.advanced) e, ap (λ (r : Relay J). r.received) e, ap (λ (r : Relay J). r.put) e)
  loads_keeps most o n (inr l) = (ap (λ (r : Relay J). r.advanced) l.others, ap (λ (r : Relay J). r.received) l.others, ap (λ (r : Relay J). r.put) l.others)

  -- what was put, so many
  hands_put : (gave : ℕ) (o n : Relay J) → Hands gave o n → (given : List (Callback J)) × (n.put ≡ o.put ++ given) × (length given ≡ gave) × (n.received ≡ o.received) × (n.advanced ≡ o.advanced)
  hands_put gave o n (inl p) = (o.out, ap (λ (r : Relay J). r.put) p.1, sym p.0, ap (λ (r : Relay J). r.received) p.1, ap (λ (r : Relay J). r.advanced) p.1)
  hands_put gave o n (inr p) = ([], ap (λ (r : Relay J). r.put) p.1 ∙ sym (append-nil o.put), sym p.0, ap (λ (r : Relay J). r.received) p.1, ap (λ (r : Relay J). r.advanced) p.1)

  gives_put : (most gave : ℕ) (o n : Relay J) → Gives most gave o n → (given : List (Callback J)) × (n.put ≡ o.put ++ given) × (length given ≡ gave) × (n.received ≡ o.received) × (n.advanced ≡ o.advanced)
  gives_put most gave o n g = let k = loads_keeps most o g.between g.loads in let h = hands_put gave g.between n g.hands in
      (h.0, h.1 ∙ ap (λ l. l ++ h.0) k.2, h.2, h.3 ∙ k.1, h.4 ∙ k.0)

  -- no more than a processor accepts
  pub takes_few : (took : ℕ) (m n : MemberLists J) → TakesIn most_batches took (relay m) (relay n) → took ≤ 9007199254740992
  takes_few took m n t = omega (arith, n.few, ap length t.received, length-append (relay m).received t.got, t.number)

  pub waits_few : (m : MemberLists J) → length (relay m).drawn + length (relay m).out ≤ 9007199254740992
  waits_few m = let r = relay m in
      omega (arith, m.few, ap length m.order, length-append r.put (r.out ++ (callbacks_of r.list ++ r.drawn)), length-append r.out (callbacks_of r.list ++ r.drawn), length-append (callbacks_of r.list) r.drawn)

  pub gives_few : (most gave : ℕ) (m n : MemberLists J) → Gives most gave (relay m) (relay n) → gave ≤ 9007199254740992
  gives_few most gave m n g = let p = gives_put most gave (relay m) (relay n) g in let r = relay n in
      omega (arith, n.few, ap length n.order, length-append r.put (r.out ++ (callbacks_of r.list ++ r.drawn)), ap length p.1, length-append (relay m).put p.0, p.2)

  -- what waits was loaded under the limit, and so is what is given at most that
  loads_within : (most : ℕ) (o n : Relay J) → (n ≡ o) ⊎ Loads most o n → length o.out ≤ most → length n.out ≤ most
  loads_within most o n (inl e) h = omega (arith, h, ap (λ (r : Relay J). length r.out) e)
  loads_within most o n (inr l) h = omega (arith, l.number)

  hands_within : (most gave : ℕ) (o n : Relay J) → Hands gave o n → length o.out ≤ most → (gave ≤ most) × (length n.out ≤ most)
  hands_within most gave o n (inl p) h = (omega (arith, h, p.0), omega (arith, ap (λ (r : Relay J). length r.out) p.1))
  hands_within most gave o n (inr p) h = (omega (arith, p.0), omega (arith, h, ap (λ (r : Relay J). length r.out) p.1))

  gives_within : (most gave : ℕ) (o n : Relay J) → Gives most gave o n → length o.out ≤ most → gave ≤ most
  gives_within most gave o n g h = (hands_within most gave g.between n g.hands (loads_within most o g.between g.loads h)).0

  gives_left : (most gave : ℕ) (o n : Relay J) → Gives most gave o n → length o.out ≤ most → length n.out ≤ most
  gives_left most gave o n g h = (hands_within most gave g.between n g.hands (loads_within most o g.between g.loads h)).1

  -- so much for each member
  each_within : (blimit : ℕ) (answers : List ℕ) (ms ns : List (GroupMember J)) → Each (GivesTo blimit) answers ms ns → sum answers ≤ blimit * length ms
  each_within blimit [] [] [] e = omega arith
  each_within blimit [] [] (n ∷ ns) e = absurd e
  each_within blimit [] (m ∷ ms) ns e = absurd e
  each_within blimit (a ∷ answers) [] ns e = absurd e
  each_within blimit (a ∷ answers) (m ∷ ms) [] e = absurd e
  each_within blimit (a ∷ answers) (m ∷ ms) (n ∷ ns) e = let rest = each_within blimit answers ms ns e.1 in
      omega (arith, rest, e.0.few, sum_by-cons (λ (k : ℕ). k) a answers, mul-suc blimit (length ms))

  pub sums_within : (blimit gave : ℕ) (ms ns : List (GroupMember J)) → Sums (GivesTo blimit) gave ms ns → gave ≤ blimit * length ms
  sums_within blimit gave ms ns s = let all = each_within blimit s.each ms ns s.elements in omega (arith, all, s.total_is)

  -- of the same group, whose members are as many
  pub within_same : (gave : ℕ) (p q : GroupState J) → SameGroup p q → gave ≤ q.blimit * length (members_of q) → gave ≤ p.blimit * length (members_of p)
  within_same gave p q same few = subst (λ (k : ℕ). gave ≤ k * length (members_of p)) same.blimit
      (subst (λ (k : ℕ). gave ≤ q.blimit * k) (sym (length_all_zip SameGroupMember (members_of p) (members_of q) same.members)) few)

  -- ---- what its lists do, a member does

  pub takes_from : (took : ℕ) (m : GroupMember J) (n : MemberLists J) → SameFront (front_of m.member) (front_of n) × (rear_of n ≡ rear_of m.member) → TakesIn most_batches took (relay m.member) (relay n) → TakesFrom took m (record m { member = n })
  takes_from took m n lanes takes = record {
    same = record { cpu = refl; front = lanes.0; rear = subst (λ r. SameRear (rear_of m.member) r) (sym lanes.1) refl };
    takes = takes;
  }

  pub gives_to : (blimit gave : ℕ) (m : GroupMember J) (n : MemberLists J) → (front_of n ≡ front_of m.member) × SameRear (rear_of m.member) (rear_of n) → Gives blimit gave (relay m.member) (relay n) → GivesSome blimit gave (relay m.member)
      → length (relay_of m).out ≤ blimit → GivesTo blimit gave m (record m { member = n })
  gives_to blimit gave m n lanes gives some loaded = record {
    same = record { cpu = refl; front = subst (λ r. SameFront (front_of m.member) r) (sym lanes.0) refl; rear = lanes.1 };
    gives = gives;
    few = gives_within blimit gave (relay m.member) (relay n) gives loaded;
    some = some;
  }

  pub looks_at : (seen : ℕ) (wants : Option ℕ) (m : GroupMember J) (n : MemberLists J) → (front_of n ≡ front_of m.member) × (rear_of n ≡ rear_of m.member) → relay n ≡ after_look seen (relay m.member) → wants ≡ wanted seen (relay m.member).list
      → LooksAt seen wants m (record m { member = n })
  looks_at seen wants m n lanes list wants_is = record {
    same = record { cpu = refl; front = subst (λ r. SameFront (front_of m.member) r) (sym lanes.0) refl; rear = subst (λ r. SameRear (rear_of m.member) r) (sym lanes.1) refl };
    list = list;
    wants_is = wants_is;
  }

  -- ---- places

  passes : (m n : GroupMember J) (got given : List (Callback J)) → (relay_of n).received ≡ (relay_of m).received ++ got → (relay_of n).put ≡ (relay_of m).put ++ given → PassesOn m n
  passes m n got given received put = record {
    got = got;
    given = given;
    received = received;
    put = put;
    order = append_cancel_left (relay_of m).put (held_of m ++ got) (given ++ held_of n)
        (sym (append_assoc (relay_of m).put (held_of m) got) ∙ (ap (λ l. l ++ got) (sym m.member.order) ∙ (sym received ∙ (n.member.order ∙ (ap (λ l. l ++ held_of n) put ∙ append_assoc (relay_of m).put given (held_of n))))));
  }

  passes_again : (l m n : GroupMember J) → PassesOn l m → PassesOn m n → PassesOn l n
  passes_again l m n a b = passes l n (a.got ++ b.got) (a.given ++ b.given)
      (b.received ∙ (ap (λ cs. cs ++ b.got) a.received ∙ append_assoc (relay_of l).received a.got b.got))
      (b.put ∙ (ap (λ cs. cs ++ b.given) a.put ∙ append_assoc (relay_of l).put a.given b.given))

  takes_passes : (took : ℕ) (m n : GroupMember J) → TakesFrom took m n → PassesOn m n
  takes_passes took m n t = passes m n t.takes.got [] t.takes.received (ap (λ (r : Relay J). r.put) t.takes.others ∙ sym (append-nil (relay_of m).put))

  looks_passes : (seen : ℕ) (wants : Option ℕ) (m n : GroupMember J) → LooksAt seen wants m n → PassesOn m n
  looks_passes seen wants m n l = passes m n [] [] (ap (λ (r : Relay J). r.received) l.list ∙ sym (append-nil (relay_of m).received)) (ap (λ (r : Relay J). r.put) l.list ∙ sym (append-nil (relay_of m).put))

  gives_passes : (blimit gave : ℕ) (m n : GroupMember J) → GivesTo blimit gave m n → PassesOn m n
  gives_passes blimit gave m n g = let p = gives_put blimit gave (relay_of m) (relay_of n) g.gives in passes m n [] p.0 (p.3 ∙ sym (append-nil (relay_of m).received)) p.1

  pub takes_places : (took : ℕ) (ms ns : List (GroupMember J)) → Sums TakesFrom took ms ns → AllZip PassesOn ms ns
  takes_places took ms ns s = each_zip TakesFrom PassesOn takes_passes s.each ms ns s.elements

  pub looks_places : (seen : ℕ) (most : Option ℕ) (ms ns : List (GroupMember J)) → LooksAtAll seen most ms ns → AllZip PassesOn ms ns
  looks_places seen most ms ns l = each_zip (LooksAt seen) PassesOn (looks_passes seen) l.wants ms ns l.members

  pub gives_places : (blimit gave : ℕ) (ms ns : List (GroupMember J)) → Sums (GivesTo blimit) gave ms ns → AllZip PassesOn ms ns
  gives_places blimit gave ms ns s = each_zip (GivesTo blimit) PassesOn (gives_passes blimit) s.each ms ns s.elements

  -- ---- the same members

  same_group_member_again : (l m n : GroupMember J) → SameGroupMember l m → SameGroupMember m n → SameGroupMember l n
  same_group_member_again l m n a b = record { cpu = b.cpu ∙ a.cpu; front = b.front ∙ a.front; rear = b.rear ∙ a.rear }

  pub same_group_members_again : (ls ms ns : List (GroupMember J)) → AllZip SameGroupMember ls ms → AllZip SameGroupMember ms ns → AllZip SameGroupMember ls ns
  same_group_members_again ls ms ns a b = zip_again SameGroupMember same_group_member_again ls ms ns a b

  pub takes_same : (took : ℕ) (ms ns : List (GroupMember J)) → Sums TakesFrom took ms ns → AllZip SameGroupMember ms ns
  takes_same took ms ns s = each_zip TakesFrom SameGroupMember (λ n x y r. r.same) s.each ms ns s.elements

  pub looks_same : (seen : ℕ) (most : Option ℕ) (ms ns : List (GroupMember J)) → LooksAtAll seen most ms ns → AllZip SameGroupMember ms ns
  looks_same seen most ms ns l = each_zip (LooksAt seen) SameGroupMember (λ n x y r. r.same) l.wants ms ns l.members

  pub gives_same : (blimit gave : ℕ) (ms ns : List (GroupMember J)) → Sums (GivesTo blimit) gave ms ns → AllZip SameGroupMember ms ns
  gives_same blimit gave ms ns s = each_zip (GivesTo blimit) SameGroupMember (λ n x y r. r.same) s.each ms ns s.elements

  members_kept : (ms ns : List (GroupMember J)) → AllZip SameGroupMember ms ns → AreMembers ms → AreMembers ns
  members_kept ms ns s a = record {
    few = let f = a.few in omega (arith, length_all_zip SameGroupMember ms ns s);
    rising = subst (λ (ps : List ℕ). AllPairs (λ p q. p < q) ps) (sym (zip_map SameGroupMember (λ (m : GroupMember J). m.cpu) (λ x y r. r.cpu) ms ns s)) a.rising;
  }

  -- ---- over several steps

  pub places_again : (ls ms ns : List (GroupMember J)) → AllZip PassesOn ls ms → AllZip PassesOn ms ns → AllZip PassesOn ls ns
  places_again ls ms ns a b = zip_again PassesOn passes_again ls ms ns a b

  pub same_group_again : (p q r : GroupState J) → SameGroup p q → SameGroup q r → SameGroup p r
  same_group_again p q r a b = record {
    part = same_again _ _ _ _ _ _ a.part b.part;
    group = b.group ∙ a.group;
    blimit = b.blimit ∙ a.blimit;
    members = same_group_members_again (members_of p) (members_of q) (members_of r) a.members b.members;
  }

  pub group_members_same : (ms : List (GroupMember J)) → AllZip SameGroupMember ms ms
  group_members_same ms = zip_same SameGroupMember (λ m. record { cpu = refl; front = refl; rear = refl }) ms

  pub places_same : (ms : List (GroupMember J)) → AllZip PassesOn ms ms
  places_same ms = zip_same PassesOn (λ m. record { got = []; given = []; received = sym (append-nil (relay_of m).received); put = sym (append-nil (relay_of m).put); order = append-nil (held_of m) }) ms

  pub same_group : (p : GroupState J) → SameGroup p p
  same_group p = record { part = record { board = refl; seat = same_seat _ }; group = refl; blimit = refl; members = group_members_same (members_of p) }

  -- ---- the law

  -- a step on a word that no member waits for
  pub lawful_later : (n i x : ℕ) (v w : View) (blimit : ℕ) (ms : List (GroupMember J)) → w ≡ touched i x v → NeverFalls n v w → IsLawfulGroup v blimit ms → IsLawfulGroup w blimit ms
  lawful_later n i x v w blimit ms e later l = record {
    bare = record { own = ap (λ (u : View). u.own) e ∙ l.bare.own; claims = ap (λ (u : View). u.claims) e ∙ l.bare.claims; running = ap (λ (u : View). u.running) e ∙ l.bare.running };
    members_are = l.members_are;
    looked = All-weaker (λ (m : GroupMember J). (relay_of m).advanced ≤ sight v) (λ (m : GroupMember J). (relay_of m).advanced ≤ sight w) (λ m le. let b = later.board in omega arith) ms l.looked;
    needed = All-weaker (λ (m : GroupMember J). AreUpTo (seen_at v needed_word) (relay_of m).list) (λ (m : GroupMember J). AreUpTo (seen_at w needed_word) (relay_of m).list)
        (λ m up. up-raised (seen_at v needed_word) (seen_at w needed_word) (relay_of m).list later.needed up) ms l.needed;
    loaded = l.loaded;
  }

  pub lawful_takes : (v : View) (blimit took : ℕ) (ms ns : List (GroupMember J)) → Sums TakesFrom took ms ns → IsLawfulGroup v blimit ms → IsLawfulGroup v blimit ns
  lawful_takes v blimit took ms ns s l = record {
    bare = l.bare;
    members_are = members_kept ms ns (takes_same took ms ns s) l.members_are;
    looked = each_all TakesFrom (λ _. Unit {0}) (λ m. (relay_of m).advanced ≤ sight v) (λ m. (relay_of m).advanced ≤ sight v)
        (λ n x y r t h. omega (arith, h, takes_advanced most_batches n (relay_of x) (relay_of y) r.takes)) s.each ms ns s.elements (always s.each) l.looked;
    needed = each_all TakesFrom (λ _. Unit {0}) (λ m. AreUpTo (seen_at v needed_word) (relay_of m).list) (λ m. AreUpTo (seen_at v needed_word) (relay_of m).list)
        (λ n x y r t h. takes_upto (seen_at v needed_word) most_batches n (relay_of x) (relay_of y) r.takes h) s.each ms ns s.elements (always s.each) l.needed;
    loaded = each_all TakesFrom (λ _. Unit {0}) (λ m. length (relay_of m).out ≤ blimit) (λ m. length (relay_of m).out ≤ blimit)
        (λ n x y r t h. omega (arith, h, ap (λ (z : Relay J). length z.out) r.takes.others)) s.each ms ns s.elements (always s.each) l.loaded;
  }

  pub lawful_gives : (v : View) (blimit gave : ℕ) (ms ns : List (GroupMember J)) → Sums (GivesTo blimit) gave ms ns → IsLawfulGroup v blimit ms → IsLawfulGroup v blimit ns
  lawful_gives v blimit gave ms ns s l = record {
    bare = l.bare;
    members_are = members_kept ms ns (gives_same blimit gave ms ns s) l.members_are;
    looked = each_all (GivesTo blimit) (λ _. Unit {0}) (λ m. (relay_of m).advanced ≤ sight v) (λ m. (relay_of m).advanced ≤ sight v)
        (λ n x y r t h. let p = gives_put blimit n (relay_of x) (relay_of y) r.gives in omega (arith, h, p.4)) s.each ms ns s.elements (always s.each) l.looked;
    needed = each_all (GivesTo blimit) (λ _. Unit {0}) (λ m. AreUpTo (seen_at v needed_word) (relay_of m).list) (λ m. AreUpTo (seen_at v needed_word) (relay_of m).list)
        (λ n x y r t h. gives_upto (seen_at v needed_word) blimit n (relay_of x) (relay_of y) r.gives h) s.each ms ns s.elements (always s.each) l.needed;
    loaded = each_all (GivesTo blimit) (λ _. Unit {0}) (λ m. length (relay_of m).out ≤ blimit) (λ m. length (relay_of m).out ≤ blimit)
        (λ n x y r t h. gives_left blimit n (relay_of x) (relay_of y) r.gives h) s.each ms ns s.elements (always s.each) l.loaded;
  }

  -- what a look makes of one list
  looks_upto : (seen s t : ℕ) (wants : Option ℕ) (m n : GroupMember J) → s ≤ t → LooksAt seen wants m n → IfSome wants (λ k. k ≤ t) → AreUpTo s (relay_of m).list → AreUpTo t (relay_of n).list
  looks_upto seen s t wants m n le l below h =
      let xs = (relay_of m).list in
      let wanted_below : IfSome (wanted seen xs) (λ k. k ≤ t) = subst (λ (o : Option ℕ). IfSome o (λ k. k ≤ t)) l.wants_is below in
      subst (λ (r : Relay J). AreUpTo t r.list) (sym l.list)
      (look-needed seen t xs (wants_upto t (aim seen xs) (carries (aim seen xs) (list_looked seen xs)) wanted_below) (up-raised s t xs le h))

  lawful_looks : (r seen : ℕ) (v w : View) (blimit : ℕ) (most : Option ℕ) (ms ns : List (GroupMember J)) → KeepsLists (looked r v) w → sight w ≡ seen → seen_at v needed_word ≤ seen_at w needed_word
      → IfSome most (λ n. n ≤ seen_at w needed_word) → LooksAtAll seen most ms ns → IsLawfulGroup v blimit ms → IsLawfulGroup w blimit ns
  lawful_looks r seen v w blimit most ms ns k at later below a l = record {
    bare = bare_looked r v w k l.bare;
    members_are = members_kept ms ns (looks_same seen most ms ns a) l.members_are;
    looked = each_all (LooksAt seen) (λ _. Unit {0}) (λ m. (relay_of m).advanced ≤ sight v) (λ m. (relay_of m).advanced ≤ sight w)
        (λ n x y q t h. omega (arith, at, ap (λ (z : Relay J). z.advanced) q.list)) a.wants ms ns a.members (always a.wants) l.looked;
    needed = each_all (LooksAt seen) (λ n. IfSome n (λ k. k ≤ seen_at w needed_word)) (λ m. AreUpTo (seen_at v needed_word) (relay_of m).list) (λ m. AreUpTo (seen_at w needed_word) (relay_of m).list)
        (λ n x y q t h. looks_upto seen (seen_at v needed_word) (seen_at w needed_word) n x y later q t h) a.wants ms ns a.members
        (greatest_upto (seen_at w needed_word) most a.wants a.greatest below) l.needed;
    loaded = each_all (LooksAt seen) (λ _. Unit {0}) (λ m. length (relay_of m).out ≤ blimit) (λ m. length (relay_of m).out ≤ blimit)
        (λ n x y q t h. omega (arith, h, ap (λ (z : Relay J). length z.out) q.list)) a.wants ms ns a.members (always a.wants) l.loaded;
  }

  -- the same, by what the look and the ask say of the seat: r before them, s between, t behind
  pub lawful_asks : (b : Table) (r s t : Seat) (seen blimit : ℕ) (most : Option ℕ) (ms ns : List (GroupMember J)) → AtBoard b r → SameSeat r s → view s ≡ looked seen (view r) → seen ≡ sight (view s)
      → SameSeat s t → KeepsLists (view s) (view t) → sight (view t) ≡ sight (view s) → IfSome most (λ n. n ≤ seen_at (view t) needed_word) → LooksAtAll seen most ms ns → IsLawfulGroup (view r) blimit ms
      → IsLawfulGroup (view t) blimit ns
  lawful_asks b r s t seen blimit most ms ns at same looks is again keeps stays below a l = lawful_looks seen seen (view r) (view t) blimit most ms ns
      (subst (λ (x : View). KeepsLists x (view t)) looks keeps) (stays ∙ sym is) (let x = (same.later b at).needed in let y = (again.later b (same.table ∙ at)).needed in omega arith) below a l

  -- before any step
  pub lawful_first : (v : View) (blimit : ℕ) (ms : List (GroupMember J)) → IsBare v → AreMembers ms → All (λ (m : GroupMember J). IsEmptyGroupMember m) ms → IsLawfulGroup v blimit ms
  lawful_first v blimit ms bare members empty = record {
    bare = bare;
    members_are = members;
    looked = All-weaker (λ (m : GroupMember J). IsEmptyGroupMember m) (λ (m : GroupMember J). (relay_of m).advanced ≤ sight v) (λ m e. omega (arith, ap (λ (r : Relay J). r.advanced) e)) ms empty;
    needed = All-weaker (λ (m : GroupMember J). IsEmptyGroupMember m) (λ (m : GroupMember J). AreUpTo (seen_at v needed_word) (relay_of m).list)
        (λ m e. subst (λ (r : Relay J). AreUpTo (seen_at v needed_word) r.list) (sym e) (All-nil (λ (x : Labelled J). IsTrue (is_up_to (seen_at v needed_word) x.label)))) ms empty;
    loaded = All-weaker (λ (m : GroupMember J). IsEmptyGroupMember m) (λ (m : GroupMember J). length (relay_of m).out ≤ blimit) (λ m e. omega (arith, ap (λ (r : Relay J). length r.out) e)) ms empty;
  }
