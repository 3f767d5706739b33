use Rattle.std.proofs.Common.{◌≡◌, ℕ, ◌+◌, List, [], ◌∷◌, ◌∙◌, Bor, map, drop, sym, ap, refl, arith, Ok, Err}
use Rattle.std.proofs.lemmas.List.{at_drop_more, at_drop_all, map-append}
use Rattle.std.proofs.lemmas.Result.{err_from_is_err_and}
use Rattle.toml.specs.Data.{Data, string, integer, float, boolean, datetime, array, table, as_array, as_str}
use Rattle.toml.specs.View.{items_view, view}
use Rattle.rcu_setup.specs.Arrays.{items_texts, texts_in, texts_view}
use Rattle.rcu_setup.specs.Faults.{wrong_kind, or_fault, ◌>>◌}
use Rattle.rcu_setup.specs.Numbers.{text_in}
use Rattle.rcu_setup.specs.declared.fault.Key.{Key}
use Rattle.rcu_setup.proofs.arrays.texts.Goals as goal

-- the two kinds that are asked for
texts_by : (k : Key) (d : Data) → texts_in k d ≡ (or_fault (wrong_kind k) (as_array d) >> items_texts k [])
texts_by k (string s) = refl
texts_by k (integer z) = refl
texts_by k (float x) = refl
texts_by k (boolean b) = refl
texts_by k (datetime t) = refl
texts_by k (array ds) = refl
texts_by k (table ms) = refl

text_by : (k : Key) (d : Data) → text_in k d ≡ or_fault (wrong_kind k) (as_str d)
text_by k (string s) = refl
text_by k (integer z) = refl
text_by k (float x) = refl
text_by k (boolean b) = refl
text_by k (datetime t) = refl
text_by k (array ds) = refl
text_by k (table ms) = refl

pub returns-in_default : goal.returns-in_default
returns-in_default c = texts_by c.args.key (view c.args.value.now) ∙ rw (sym c.in_default.ensures)

pub loop-item-init : goal.loop-item-init
loop-item-init c = let k = c.args.key in
    let all : texts_in k (view c.args.value.now) ≡ items_texts k [] (items_view c.in-Some.items.now.items) = texts_by k (view c.args.value.now) ∙ rw (sym c.in-Some.ensures) in
    ap (λ z. items_texts k (map (λ (s : Bor (List ℕ)). s.now) z) (items_view c.deref-item-items.result.now)) c.new-found.ensures.items
    ∙ ap (λ z. items_texts k [] (items_view z)) c.deref-item-items.ensures.value ∙ sym all

pub returns-in_default-as_str : goal.returns-in_default-as_str
returns-in_default-as_str c = let l = c.loop-item in let k = c.args.key in let items = c.deref-item-items.result.now in let x = c.item-item.result in
    let none : text_in k (view x) ≡ Err (wrong_kind k) = text_by k (view x) ∙ rw (sym c.in_default-as_str.ensures) in
    sym l.invariant ∙ at_drop_more (λ z. items_texts k (texts_view l.found) (items_view z)) items l.item-index x (omega arith)
    ∙ ap (λ y. items_texts k (texts_view l.found) (items_view (y ∷ drop (l.item-index + 1) items))) (sym c.item-item.is) ∙ rw none

pub returns-in_err-push : goal.returns-in_err-push
returns-in_err-push c = let p = err_from_is_err_and c.from_residual.result c.from_residual.ensures.1 in rw (p.1, p.2) tt

pub loop-item-preserved : goal.loop-item-preserved
loop-item-preserved c = let l = c.loop-item in let k = c.args.key in let items = c.deref-item-items.result.now in let x = c.item-item.result in
    let some : text_in k (view x) ≡ Ok c.in-Some-as_str.text.now = text_by k (view x) ∙ rw (sym c.in-Some-as_str.ensures) in
    let found = ap (map (λ (s : Bor (List ℕ)). s.now)) c.in_ok-push.ensures.items ∙ map-append (λ (s : Bor (List ℕ)). s.now) l.found.items _ in
    ap (λ fs. items_texts k fs (items_view (drop (l.item-index + 1) items))) found
    ∙ sym (sym l.invariant ∙ at_drop_more (λ z. items_texts k (texts_view l.found) (items_view z)) items l.item-index x (omega arith)
    ∙ ap (λ y. items_texts k (texts_view l.found) (items_view (y ∷ drop (l.item-index + 1) items))) (sym c.item-item.is) ∙ rw some)

pub returns : goal.returns
returns c = let l = c.loop-item in
    sym l.invariant ∙ at_drop_all (λ z. items_texts c.args.key (texts_view l.found) (items_view z)) c.deref-item-items.result.now l.item-index (omega arith)
