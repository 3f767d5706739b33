-- What is left of one processor.
use Rattle.std.proofs.Common.{◌≡◌, Contains, get_or, inl, Bool, true, false, cond, ℕ, zero, suc, ◌+◌, ◌≤◌, ◌<◌, List, [], ◌∷◌, ◌++◌, length, map, take, drop, append-nil, append_assoc, length-append, vec_len, vec_capacity, sym, ap, ◌∙◌, refl, subst, arith}
use Rattle.std.proofs.Math.Logic.{∥∥₁_elim}
use Rattle.std.proofs.Math.Seq.{take-append_seam, drop-append_seam}
use Rattle.std.proofs.Props.{props}
use Rattle.std.proofs.lemmas.List.{map-append, length-map, drop-map}
use Rattle.std.proofs.lemmas.Grind.{flat_map-append}
use Rattle.std.proofs.lemmas.List.Elements.{Contains-get_or}
use Rattle.std.proofs.lemmas.List.Concat.{flat_map-cons}
use Rattle.std.specs.List.{flat_map}
use Rattle.std.specs.declared.alloc.Global.{Global}
use Rattle.std.specs.declared.vec.Vec.{Vec}
use Rattle.rcu_part_lists.specs.ProcessorLists.{Holding, held_in, put_by, passed_on}
use Rattle.rcu_jobs.specs.Records.{Given}
use Rattle.rcu_jobs.specs.declared.callback.Callback.{Callback}
use Rattle.rcu_jobs.specs.declared.callback.Record.{Record}
use Rattle.rcu_lanes.specs.Ends.{SameLane}
use Rattle.rcu_lanes.specs.declared.ends.Front.{Front}
use Rattle.rcu_lanes.specs.declared.ends.Rear.{Rear}
use Rattle.rcu_lists.specs.Parcels.{parcel_items}
use Rattle.rcu_lists.specs.declared.parcel.Parcel.{Parcel}
use Rattle.rcu_part_order.specs.Order.{Remaining, between, times}
use Rattle.rcu_part_order.specs.Places.{Accepted, Move, Numbered, Placed, claimed_of, moved, numbered, put_of, keys_of}
use Rattle.rcu_part_order.proofs.Moves.{placed_all}
use Rattle.rcu_part_order.proofs.Ordering.{begins}
use Rattle.rcu_part_order.specs.Callbacks.{AreKeyed, numbered_callback, numbered_callbacks}
use Rattle.rcu_part_order.specs.Records.{AreOfBoth, AreRipe, AreSeenBy, numbered_record, numbered_records}
use Rattle.rcu_part_close.specs.Ends.{AreInPlace, AreOnceBelow, EndsWith, IsEnd, IsSoundEnd, left_of}
use Rattle.rcu_part_close.specs.Moving.{Takes, jobs_of}
use Rattle.rcu_part_close.proofs.Counting.{two_as_many}

-- ---- jobs that are taken out

pub fewer : {X : Type 0} (xs ys : List X) (x : X) → xs ≡ x ∷ ys → length ys < length xs
fewer xs ys x e = let l = ap length e in omega arith

module _ {J : Type 0} where
  pub takes_none : (v : Vec J Global) → Takes [] v v
  takes_none v = record { jobs = sym (append-nil v.items); len = omega arith; room = refl }

  pub takes_then : (xs ys : List (Callback J)) (a b c : Vec J Global) → Takes xs a b → Takes ys b c → Takes (xs ++ ys) a c
  takes_then xs ys a b c first second = record {
    jobs = second.jobs ∙ (ap (λ (js : List J). js ++ jobs_of ys) first.jobs ∙ (append_assoc a.items (jobs_of xs) (jobs_of ys) ∙ ap (λ (js : List J). a.items ++ js) (sym (map-append (λ (c : Callback J). c.job) xs ys))));
    len = let n = length-append xs ys in let f = first.len in let s = second.len in omega arith;
    room = second.room ∙ first.room;
  }

  -- room for all is room for the first, and then for the others
  pub first_fits : (n cap : ℕ) (xs ys : List (Callback J)) → n + length (xs ++ ys) ≤ cap → n + length xs ≤ cap
  first_fits n cap xs ys h = let l = length-append xs ys in omega arith

  pub rest_fits : (xs ys : List (Callback J)) (a b : Vec J Global) → Takes xs a b → vec_len a + length (xs ++ ys) ≤ vec_capacity a → vec_len b + length ys ≤ vec_capacity b
  rest_fits xs ys a b t h = let l = length-append xs ys in let f = t.len in let r = t.room in omega arith

  -- one callback of a batch, and none
  pub one_taken : (c : Callback J) (xs ys : List (Callback J)) (v w : Vec J Global) (end : List J) → xs ≡ c ∷ ys → w.items ≡ v.items ++ c.job ∷ [] → v.items ++ jobs_of xs ≡ end → w.items ++ jobs_of ys ≡ end
  one_taken c xs ys v w end e f h = ap (λ (js : List J). js ++ jobs_of ys) f ∙ (append_assoc v.items (c.job ∷ []) (jobs_of ys) ∙ (ap (λ (l : List (Callback J)). v.items ++ jobs_of l) (sym e) ∙ h))

  pub all_taken : (xs : List (Callback J)) (v : Vec J Global) (end : List J) → xs ≡ [] → v.items ++ jobs_of xs ≡ end → v.items ≡ end
  all_taken xs v end e h = sym (append-nil v.items) ∙ (ap (λ (l : List (Callback J)). v.items ++ jobs_of l) (sym e) ∙ h)

  -- one callback of a list
  pub next_taken : (c : Callback J) (xs : List (Callback J)) (old v w : Vec J Global) → w.items ≡ v.items ++ c.job ∷ [] → v.items ≡ old.items ++ jobs_of xs → w.items ≡ old.items ++ jobs_of (xs ++ c ∷ [])
  next_taken c xs old v w f h = f ∙ (ap (λ (js : List J). js ++ c.job ∷ []) h ∙ (append_assoc old.items (jobs_of xs) (c.job ∷ []) ∙ ap (λ (js : List J). old.items ++ js) (sym (map-append (λ (c : Callback J). c.job) xs (c ∷ [])))))

  -- one batch of a lane
  pub lane_taken : (b : Parcel J) (bs bs' : List (Parcel J)) (v w : Vec J Global) (end : List J) → bs ≡ b ∷ bs' → Takes (parcel_items b) v w → v.items ++ jobs_of (flat_map parcel_items bs) ≡ end
      → w.items ++ jobs_of (flat_map parcel_items bs') ≡ end
  lane_taken b bs bs' v w end e t h =
      ap (λ (js : List J). js ++ jobs_of (flat_map parcel_items bs')) t.jobs
      ∙ (append_assoc v.items (jobs_of (parcel_items b)) (jobs_of (flat_map parcel_items bs'))
      ∙ (ap (λ (js : List J). v.items ++ js) (sym (map-append (λ (c : Callback J). c.job) (parcel_items b) (flat_map parcel_items bs')) ∙ sym (ap (λ (l : List (Parcel J)). jobs_of (flat_map parcel_items l)) e ∙ ap jobs_of (flat_map-cons parcel_items b bs'))) ∙ h))

  pub lane_len : (b : Parcel J) (bs bs' : List (Parcel J)) (v w : Vec J Global) (end : ℕ) → bs ≡ b ∷ bs' → Takes (parcel_items b) v w → vec_len v + length (flat_map parcel_items bs) ≡ end → vec_len w + length (flat_map parcel_items bs') ≡ end
  lane_len b bs bs' v w end e t h =
      let f = t.len in
      let l = ap (λ (l : List (Parcel J)). length (flat_map parcel_items l)) e ∙ (ap length (flat_map-cons parcel_items b bs') ∙ length-append (parcel_items b) (flat_map parcel_items bs')) in omega arith

-- what a processor put is what its hand took, then what the hand holds, the done lane, what the group holds, and the lane
pub passed_through : {A : Type 0} (put received done drawn taken held out list waiting left done_left : List A) → put ≡ received ++ left → received ≡ done ++ (out ++ (list ++ waiting)) → done ≡ drawn ++ done_left → drawn ≡ taken ++ held
    → (put ≡ taken ++ ((held ++ (done_left ++ (out ++ list))) ++ (waiting ++ left))) × (put ≡ drawn ++ ((done_left ++ (out ++ list)) ++ (waiting ++ left)))
passed_through put received done drawn taken held out list waiting left done_left a b c d =
    let later : put ≡ drawn ++ ((done_left ++ (out ++ list)) ++ (waiting ++ left)) =
    a ∙ (ap (λ l. l ++ left) (b ∙ (ap (λ l. l ++ (out ++ (list ++ waiting))) c ∙ (append_assoc drawn done_left (out ++ (list ++ waiting))
    ∙ ap (λ l. drawn ++ l) (ap (λ l. done_left ++ l) (sym (append_assoc out list waiting)) ∙ sym (append_assoc done_left (out ++ list) waiting)))))
    ∙ (append_assoc drawn ((done_left ++ (out ++ list)) ++ waiting) left ∙ ap (λ l. drawn ++ l) (append_assoc (done_left ++ (out ++ list)) waiting left))) in (
      later ∙ (ap (λ l. l ++ ((done_left ++ (out ++ list)) ++ (waiting ++ left))) d ∙ (append_assoc taken held ((done_left ++ (out ++ list)) ++ (waiting ++ left))
          ∙ ap (λ l. taken ++ l) (sym (append_assoc held (done_left ++ (out ++ list)) (waiting ++ left))))),
      later,
    )

-- so what the hand didn't take is this
pub not_taken : {A : Type 0} (put taken rest : List A) → put ≡ taken ++ rest → drop (length taken) put ≡ rest
not_taken put taken rest e = ap (drop (length taken)) e ∙ drop-append_seam taken rest

pub taken_first : {A : Type 0} (put taken rest : List A) → put ≡ taken ++ rest → put ≡ taken ++ drop (length taken) put
taken_first put taken rest e = e ∙ ap (λ l. taken ++ l) (sym (not_taken put taken rest e))

module _ {J : Type 0} where
  -- the callbacks that went over a lane, batch after batch
  pub lane_split : (put put' drawn drawn' left : List (Parcel J)) → put' ≡ put → drawn' ≡ drawn → put' ≡ drawn' ++ left → flat_map parcel_items put ≡ flat_map parcel_items drawn ++ flat_map parcel_items left
  lane_split put put' drawn drawn' left p d e =
      ap (flat_map parcel_items) (sym p ∙ (e ∙ ap (λ l. l ++ left) d)) ∙ flat_map-append parcel_items drawn left

  -- what a processor put, through both lanes and the group: pu is what was put and dr what was drawn on its lane, with `le` left there; the
  -- same with a D of the done lane
  pub passage : (pu pu' dr dr' le puD puD' drD drD' leD : List (Parcel J)) (taken held held' out list waiting : List (Callback J)) → pu' ≡ pu → dr' ≡ dr → pu' ≡ dr' ++ le → puD' ≡ puD → drD' ≡ drD → puD' ≡ drD' ++ leD
      → flat_map parcel_items dr ≡ flat_map parcel_items puD ++ (out ++ (list ++ waiting)) → flat_map parcel_items drD ≡ taken ++ held' → held ≡ held'
      → (flat_map parcel_items pu ≡ taken ++ ((held ++ (flat_map parcel_items leD ++ (out ++ list))) ++ (waiting ++ flat_map parcel_items le)))
      × (flat_map parcel_items pu ≡ flat_map parcel_items drD ++ ((flat_map parcel_items leD ++ (out ++ list)) ++ (waiting ++ flat_map parcel_items le)))
  passage pu pu' dr dr' le puD puD' drD drD' leD taken held held' out list waiting a b c d e f order hand same =
      passed_through (flat_map parcel_items pu) (flat_map parcel_items dr) (flat_map parcel_items puD) (flat_map parcel_items drD) taken held out list waiting (flat_map parcel_items le) (flat_map parcel_items leD)
      (lane_split pu pu' dr dr' le a b c) order (lane_split puD puD' drD drD' leD d e f) (hand ∙ ap (λ (l : List (Callback J)). taken ++ l) (sym same))

  pub lane_room : (b : Parcel J) (bs bs' : List (Parcel J)) (n cap end whole : ℕ) → bs ≡ b ∷ bs' → n + length (flat_map parcel_items bs) ≡ end → cap ≡ whole → end ≤ whole → n + length (parcel_items b) ≤ cap
  lane_room b bs bs' n cap end whole e h same fits =
      let l = ap (λ (l : List (Parcel J)). length (flat_map parcel_items l)) e ∙ (ap length (flat_map-cons parcel_items b bs') ∙ length-append (parcel_items b) (flat_map parcel_items bs')) in omega arith

  -- room for what was put and not taken, and for what is held
  pub all_fit : (put taken first second held kept : List (Callback J)) (v : Vec J Global) (jobs : ℕ) → v.items ≡ [] → put ≡ taken ++ (first ++ second) → held ≡ kept → length put + length kept ≤ length taken + jobs → jobs ≤ vec_capacity v
      → vec_len v + length (first ++ (second ++ held)) ≤ vec_capacity v
  all_fit put taken first second held kept v jobs none passed same fits room =
      let a = ap length none in
      let b = ap length passed ∙ length-append taken (first ++ second) in
      let c = length-append first second in
      let d = length-append first (second ++ held) in
      let e = length-append second held in
      let f = ap length same in
      let n = v.ok.0 in omega arith

  -- these jobs came back
  pub came_back : (put taken first second held kept : List (Callback J)) (v w : Vec J Global) → v.items ≡ [] → put ≡ taken ++ (first ++ second) → held ≡ kept → Takes (first ++ (second ++ held)) v w → w.items ≡ jobs_of (drop (length taken) put ++ kept)
  came_back put taken first second held kept v w none passed same t =
      t.jobs ∙ (ap (λ (js : List J). js ++ jobs_of (first ++ (second ++ held))) none ∙ ap jobs_of (sym (append_assoc first second held)
      ∙ (ap (λ (l : List (Callback J)). (first ++ second) ++ l) same ∙ ap (λ (l : List (Callback J)). l ++ kept) (sym (not_taken put taken (first ++ second) passed)))))

module _ {J : Type 0} where
  -- of a processor that put nothing on its lane
  pub local_back : (v w : Vec J Global) (bypass own bypass' own' : List (Callback J)) → v.items ≡ [] → bypass ≡ bypass' → own ≡ own' → Takes (bypass ++ own) v w → w.items ≡ jobs_of (bypass' ++ own')
  local_back v w bypass own bypass' own' none b o t =
      t.jobs ∙ (ap (λ (js : List J). js ++ jobs_of (bypass ++ own)) none ∙ ap jobs_of (ap (λ (l : List (Callback J)). l ++ own) b ∙ ap (λ (l : List (Callback J)). bypass' ++ l) o))

  pub local_fits : (v : Vec J Global) (bypass own bypass' own' : List (Callback J)) → v.items ≡ [] → bypass ≡ bypass' → own ≡ own' → length (bypass' ++ own') ≤ vec_capacity v → vec_len v + length (bypass ++ own) ≤ vec_capacity v
  local_fits v bypass own bypass' own' none b o room =
      let a = ap length none in
      let d = ap length b in
      let e = ap length o in
      let f = length-append bypass own in
      let h = length-append bypass' own' in
      let n = v.ok.0 in omega arith

-- the ends of one lane, taken out of the parts
module _ {T L : Type 0} where
  pub ends_of_one : (f f' : Front T L) (r r' : Rear T L) → f' ≡ f → r' ≡ r → SameLane f r → SameLane f' r'
  ends_of_one f f' r r' a b h = subst (λ (x : Front T L). SameLane x r') (sym a) (subst (SameLane f) (sym b) h)

-- ---- the order of all numbers

-- where nothing was put, all moves are claims
all_claimed : (ms : List Move) → put_of ms ≡ [] → moved ms ≡ claimed_of ms
all_claimed [] e = refl
all_claimed (m ∷ ms) e =
    let P : Bool → Type 0 = λ b. cond b (put_of ms) (m.what ∷ put_of ms) ≡ [] → m.what ∷ moved ms ≡ cond b (m.what ∷ claimed_of ms) (claimed_of ms) in
    (elim m.claimed as P [ true ↦ λ h. ap (λ l. m.what ∷ l) (all_claimed ms h) | false ↦ λ h. absurd (omega (arith, ap length h)) ]) e

-- the records, and what comes back
record Parted (m : ℕ) (accepted : List Accepted) (ran others : List Numbered) : Type 0 where
  pub within : m ≤ length accepted
  pub many : length ran ≡ m
  pub ran_is : ran ≡ take m (numbered 0 accepted)
  pub others_are : others ≡ drop m (numbered 0 accepted)

parted : (m : ℕ) (accepted : List Accepted) (own put held hands back ran : List Numbered) → Placed accepted own put held → put ≡ hands ++ back → length own + length hands ≡ m → numbered 0 accepted ≡ ran ++ (back ++ held)
    → Parted m accepted ran (back ++ held)
parted m accepted own put held hands back ran p split many all =
    let n = placed_all accepted own put held p in
    let a = ap length split ∙ length-append hands back in
    let b = ap length all ∙ length-append ran (back ++ held) in
    let c = length-append back held in
    let d = numbered-length 0 accepted in
    let e : length ran ≡ m = omega arith in record {
      within = omega arith;
      many = e;
      ran_is = sym (take-append_seam ran (back ++ held)) ∙ (ap (λ (k : ℕ). take k (ran ++ (back ++ held))) e ∙ ap (take m) (sym all));
      others_are = sym (drop-append_seam ran (back ++ held)) ∙ (ap (λ (k : ℕ). drop k (ran ++ (back ++ held))) e ∙ ap (drop m) (sym all));
    } where
      numbered-length : (k : ℕ) (xs : List Accepted) → length (numbered k xs) ≡ length xs
      numbered-length k [] = refl
      numbered-length k (x ∷ xs) = ap suc (numbered-length (k + 1) xs)

numbered_keys : (k : ℕ) (xs : List Accepted) → map (λ (x : Numbered). x.key) (numbered k xs) ≡ keys_of xs
numbered_keys k [] = refl
numbered_keys k (x ∷ xs) = ap (λ l. x.key ∷ l) (numbered_keys (k + 1) xs)

module _ {J : Type 0} (key_of : J → ℕ) where
  keys_of_jobs : (cs : List (Callback J)) → AreKeyed key_of cs → map key_of (jobs_of cs) ≡ map (λ (x : Numbered). x.key) (numbered_callbacks cs)
  keys_of_jobs [] h = refl
  keys_of_jobs (c ∷ cs) h = λ i. h zero c (let z : 0 < length (c ∷ cs) = omega arith in z) i ∷ keys_of_jobs cs (λ k d lt. h (suc k) d (let z : suc k < length (c ∷ cs) = omega arith in z)) i

  keyed_first : (xs ys : List (Callback J)) → AreKeyed key_of (xs ++ ys) → AreKeyed key_of xs
  keyed_first [] ys h k d lt = absurd (omega (arith, lt))
  keyed_first (x ∷ xs) ys h zero d lt = h zero d (let z : 0 < length (x ∷ (xs ++ ys)) = omega arith in z)
  keyed_first (x ∷ xs) ys h (suc k) d lt = keyed_first xs ys (λ j e z. h (suc j) e (let q : suc j < length (x ∷ (xs ++ ys)) = omega (arith, z) in q)) k d (omega (arith, lt))

  keyed_rest : (xs ys : List (Callback J)) → AreKeyed key_of (xs ++ ys) → AreKeyed key_of ys
  keyed_rest [] ys h = h
  keyed_rest (x ∷ xs) ys h = keyed_rest xs ys (λ j e z. h (suc j) e (let q : suc j < length (x ∷ (xs ++ ys)) = omega (arith, z) in q))

module _ {J R : Type 0} (key_of : J → ℕ) (gives : ℕ → R → Type 0) where
  -- the keys of what comes back, and the receipts
  is_sound_end : (m : ℕ) (accepted : List Accepted) (ran : List (Record R)) (calls : List (Callback J)) → numbered_callbacks calls ≡ drop m (numbered 0 accepted) → AreKeyed key_of calls → Given gives ran
      → IsSoundEnd key_of gives accepted m ran (jobs_of calls)
  is_sound_end m accepted ran calls others_are keyed given = record {
    back_is = keys_of_jobs key_of calls keyed ∙ (ap (map (λ (x : Numbered). x.key)) others_are ∙ (sym (drop-map (λ (x : Numbered). x.key) m (numbered 0 accepted)) ∙ ap (drop m) (numbered_keys 0 accepted)));
    given = given;
  }

  -- an offloadable processor's accepted list, once its records are merged: those that ran, and those that are left
  record IsParted (m : ℕ) (accepted : List Accepted) (ran : List (Record R)) (left : List (Callback J)) : Type 0 where
    pub within : m ≤ length accepted
    pub ran_is : numbered_records ran ≡ take m (numbered 0 accepted)
    pub left_is : numbered_callbacks left ≡ drop m (numbered 0 accepted)

  offloadable_parted : (m : ℕ) (accepted : List Accepted) (own hands ran : List (Record R)) (h : Holding J) (taken : List (Callback J)) → put_by h ≡ taken ++ drop (length taken) (put_by h)
      → ((back held : List Numbered) → Remaining (length own + length hands) 0 accepted (numbered_records own) (numbered_records hands) back held → numbered 0 accepted ≡ numbered_records ran ++ (back ++ held))
      → AreInPlace accepted own hands h taken → AreOnceBelow m own hands → IsParted m accepted ran (left_of h taken)
  offloadable_parted m accepted own hands ran h taken passed order places once =
      let left = drop (length taken) (put_by h) in
      let back = numbered_callbacks left in
      let held = numbered_callbacks (held_in h) in
      let split : numbered_callbacks (put_by h) ≡ numbered_records hands ++ back = ap numbered_callbacks passed ∙ (map-append numbered_callback taken left ∙ ap (λ l. l ++ back) places.hand) in
      let marks : length (numbered_records own) + length (numbered_records hands) ≡ m = two_as_many m (numbered_records own) (numbered_records hands) once in
      let many : length own + length hands ≡ m = (let b = length-map own (numbered_record {R = R}) in let c = length-map hands (numbered_record {R = R}) in omega arith) in
      let counts : (j : ℕ) → times j (numbered_records own) + times j (numbered_records hands) ≡ between 0 (length own + length hands) j = λ j. once j ∙ ap (λ (k : ℕ). between 0 k j) (sym many) in
      let whole : numbered_callbacks (left ++ held_in h) ≡ back ++ held = map-append numbered_callback left (held_in h) in
      let p : (m ≤ length accepted) × (numbered_records ran ≡ take m (numbered 0 accepted)) × (back ++ held ≡ drop m (numbered 0 accepted)) =
      ∥∥₁_elim places.processor (hlevel props) (λ p.
      let q = parted m accepted (numbered_records own) (numbered_callbacks (put_by h)) held (numbered_records hands) back (numbered_records ran) p split marks
      (order back held (begins _ accepted (numbered_records own) (numbered_callbacks (put_by h)) held (numbered_records hands) back p split counts)) in (q.within, q.ran_is, q.others_are)) in
      record { within = p.0; ran_is = p.1; left_is = whole ∙ p.2 }

  keyed_left : (h : Holding J) (taken : List (Callback J)) → put_by h ≡ taken ++ drop (length taken) (put_by h) → AreKeyed key_of (passed_on h) → AreKeyed key_of (left_of h taken)
  keyed_left h taken passed keyed =
      let left = drop (length taken) (put_by h) in
      keyed_rest key_of taken (left ++ held_in h) (subst (AreKeyed key_of) (ap (λ l. l ++ held_in h) passed ∙ append_assoc taken left (held_in h)) keyed)

  -- the merge's clauses make the end
  pub offloadable_ends : (own hands ran : List (Record R)) (h : Holding J) (taken drawn : List (Callback J)) (back : List J)
      → put_by h ≡ taken ++ drop (length taken) (put_by h) → put_by h ≡ drawn ++ drop (length drawn) (put_by h) → back ≡ jobs_of (left_of h taken)
      → ((accepted : List Accepted) (back held : List Numbered) → Remaining (length own + length hands) 0 accepted (numbered_records own) (numbered_records hands) back held → numbered 0 accepted ≡ numbered_records ran ++ (back ++ held))
      → (Given gives own → Given gives hands → Given gives ran) → (AreRipe own → AreRipe hands → AreRipe ran) → ((x : ℕ) → AreSeenBy x own → AreSeenBy x hands → AreSeenBy x ran) → AreOfBoth own hands ran
      → EndsWith key_of gives own hands h taken drawn ran back
  offloadable_ends own hands ran h taken drawn back passed passed_drawn is order given ripe seen records = record {
    ends = λ accepted m places ripe_own ripe_hands once.
        let p = offloadable_parted m accepted own hands ran h taken passed (order accepted) places once in
        record { within = p.within; ran_is = p.ran_is; ripe = ripe ripe_own ripe_hands };
    sound = λ accepted m places once sound.
        let keyed_drawn = keyed_first key_of drawn (drop (length drawn) (put_by h) ++ held_in h)
        (subst (AreKeyed key_of) (ap (λ l. l ++ held_in h) passed_drawn ∙ append_assoc drawn (drop (length drawn) (put_by h)) (held_in h)) sound.keyed) in
        let p = offloadable_parted m accepted own hands ran h taken passed (order accepted) places once in
        subst (IsSoundEnd key_of gives accepted m ran) (sym is)
        (is_sound_end m accepted ran (left_of h taken) p.left_is (keyed_left h taken passed sound.keyed) (given sound.own_given (sound.hands_given keyed_drawn)));
    seen = seen;
    records = records;
    jobs = is;
    left = λ accepted m places once. (offloadable_parted m accepted own hands ran h taken passed (order accepted) places once).left_is;
  }

  -- of a processor that put nothing on its lane
  local_parted : (m : ℕ) (accepted : List Accepted) (own : List (Record R)) (h : Holding J) → put_by h ≡ [] → AreInPlace accepted own [] h [] → length own ≡ m → IsParted m accepted own (held_in h)
  local_parted m accepted own h none places many =
      let held = numbered_callbacks (held_in h) in
      let p : (m ≤ length accepted) × (numbered_records own ≡ take m (numbered 0 accepted)) × (held ≡ drop m (numbered 0 accepted)) =
      ∥∥₁_elim places.processor (hlevel props) (λ p.
      let q = parted m accepted (numbered_records own) (numbered_callbacks (put_by h)) held [] [] (numbered_records own) p (ap numbered_callbacks none) (omega (arith, many, length-map own (numbered_record {R = R})))
      (p.all ∙ ap (λ l. l ++ held) (all_claimed p.moves (p.put_is ∙ ap numbered_callbacks none) ∙ p.ran_is)) in (q.within, q.ran_is, q.others_are)) in
      record { within = p.0; ran_is = p.1; left_is = p.2 }

  once_own : (m : ℕ) (own : List (Record R)) → AreOnceBelow m own [] → length own ≡ m
  once_own m own once = let a = two_as_many m (numbered_records own) [] once in let b = length-map own (numbered_record {R = R}) in omega arith

  none_left : (h : Holding J) → put_by h ≡ [] → left_of h [] ≡ held_in h
  none_left h none = ap (λ put. put ++ held_in h) none

  pub local_ends : (own ran : List (Record R)) (h : Holding J) (back : List J) → put_by h ≡ [] → ran ≡ own → back ≡ jobs_of (held_in h) → EndsWith key_of gives own [] h [] [] ran back
  local_ends own ran h back none same is = record {
    ends = λ accepted m places ripe ripe_none once.
        let p = local_parted m accepted own h none places (once_own m own once) in
        subst (λ (rs : List (Record R)). IsEnd accepted m rs) (sym same) (record { within = p.within; ran_is = p.ran_is; ripe = ripe });
    sound = λ accepted m places once sound.
        let p = local_parted m accepted own h none places (once_own m own once) in
        subst (λ (rs : List (Record R)). IsSoundEnd key_of gives accepted m rs back) (sym same)
        (subst (IsSoundEnd key_of gives accepted m own) (sym is)
        (is_sound_end m accepted own (held_in h) p.left_is (subst (λ (l : List (Callback J)). AreKeyed key_of (l ++ held_in h)) none sound.keyed) sound.own_given));
    seen = λ x seen none_seen. subst (λ (rs : List (Record R)). AreSeenBy x rs) (sym same) seen;
    records = λ k d lt. inl (subst (λ (rs : List (Record R)). Contains rs (get_or ran k d)) same (Contains-get_or ran k d lt));
    jobs = is ∙ ap jobs_of (sym (none_left h none));
    left = λ accepted m places once. ap numbered_callbacks (none_left h none) ∙ (local_parted m accepted own h none places (once_own m own once)).left_is;
  }
