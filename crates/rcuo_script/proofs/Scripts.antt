-- One command after another, as a loop goes over them.
use Rattle.std.proofs.Common.{◌≡◌, ℕ, ◌+◌, ◌<◌, ◌≤◌, ◌++◌, [], ◌∷◌, List, Option, Some, None, OnOk, Result, length, take, get_or, ap, sym, subst, refl, ◌∙◌, append_assoc}
use Rattle.std.proofs.lemmas.List.{append-nil, nil_from_length, take_all}
use Rattle.std.proofs.lemmas.Result.{on_ok_weaker}
use Rattle.std.specs.Prelude.{option_to_list}
use Rattle.std.specs.Io.KnownBytes.{Appends}
use Rattle.std.proofs.lemmas.List.{take_more}
use Rattle.rcu_setup.specs.declared.line.Command.{Command}
use Rattle.rcuo_script.specs.Scripts.{PrintsAll, PrintsScript, Writes, more, none}

pub appends_again : (a b c : Option (List ℕ)) (xs ys : List ℕ) → Appends a b xs → Appends b c ys → Appends a c (xs ++ ys)
appends_again None b c xs ys h i = tt
appends_again (Some a) None c xs ys h i = elim h [ ]
appends_again (Some a) (Some b) None xs ys h i = elim i [ ]
appends_again (Some a) (Some b) (Some c) xs ys h i = i ∙ ap (λ z. z ++ ys) h ∙ append_assoc a xs ys

appends_none : (a : Option (List ℕ)) → Appends a a []
appends_none None = tt
appends_none (Some a) = sym (append-nil a)

-- A text, and then one more.
pub writes_then : {E : Type 0} (P : List ℕ → Type 0) (Q : List ℕ → Type 0) (a b c : Option (List ℕ)) (r : Result (Unit {0}) E) (ys : List ℕ) → ((xs : List ℕ) → P xs → Q (xs ++ ys))
    → Writes a b P → OnOk r (Appends b c ys) → OnOk r (Writes a c Q)
writes_then P Q a b c r ys both w last = on_ok_weaker {Q = Writes a c Q} r (λ h. (w.0 ++ ys, both w.0 w.1, appends_again a b c w.0 ys w.2 h)) last

module _ {S B J : Type 0} (prints : S → Option B → Command → Option J → List ℕ → S → Option B → Type 0) (start : S) (commands : List Command) (jobs : List J) (a : Option (List ℕ)) where
  -- What the commands before place i printed, with the jobs that they took; the others are left.
  pub record HasPrinted (left : List J) (b : Option (List ℕ)) (i : ℕ) (now : S) (opened : Option B) : Type 0 where
    pub text : List ℕ
    pub taken : List J
    pub prints_all : PrintsAll prints start (take i commands) taken text now opened
    pub rest : jobs ≡ taken ++ left
    pub written : Appends a b text

  pub printed_none : (left : List J) → left ≡ jobs → HasPrinted left a 0 start None
  printed_none left same = record { text = []; taken = []; prints_all = none; rest = sym same; written = appends_none a }

  -- Once all commands have printed and no job is left, that is the script.
  pub printed_whole : (left : List J) (b : Option (List ℕ)) (i : ℕ) (now : S) (opened : Option B) → length commands ≤ i → length left ≡ 0
      → HasPrinted left b i now opened → Writes a b (PrintsScript prints start now commands jobs)
  printed_whole left b i now opened all no_more h =
      let taken_are : h.taken ≡ jobs = sym (h.rest ∙ ap (λ l. h.taken ++ l) (nil_from_length left no_more) ∙ append-nil h.taken) in (
        h.text,
        (
          opened,
          subst (λ js. PrintsAll prints start commands js h.text now opened) taken_are
              (subst (λ cs. PrintsAll prints start cs h.taken h.text now opened) (take_all i commands all) h.prints_all),
        ),
        h.written,
      )

module _ {S B J : Type 0} (prints : S → Option B → Command → Option J → List ℕ → S → Option B → Type 0) (start : S) (commands : List Command) (jobs left left' : List J) (a b b' : Option (List ℕ)) (i : ℕ) (old new : S) (opened still : Option B) (command : Command) (job : Option J) (line : List ℕ) where
  pub printed_more : i < length commands → command ≡ get_or commands i command → left ≡ option_to_list job ++ left' → prints old opened command job line new still → Appends b b' line
      → HasPrinted prints start commands jobs a left b i old opened → HasPrinted prints start commands jobs a left' b' (i + 1) new still
  printed_more within is took one appends so_far = record {
    text = so_far.text ++ line;
    taken = so_far.taken ++ option_to_list job;
    prints_all = subst (λ cs. PrintsAll prints start cs (so_far.taken ++ option_to_list job) (so_far.text ++ line) new still)
        (sym (take_more commands i command within ∙ ap (λ c. take i commands ++ c ∷ []) (sym is))) (more so_far.prints_all one);
    rest = so_far.rest ∙ ap (λ l. so_far.taken ++ l) took ∙ sym (append_assoc so_far.taken (option_to_list job) left');
    written = appends_again a b b' so_far.text line so_far.written appends;
  }
