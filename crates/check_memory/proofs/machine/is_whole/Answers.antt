use Rattle.std.proofs.Common.{rules, ◌≡◌, ◌<◌, Some, refl, subst, get_or, length}
use Rattle.std.specs.List.{slice_get}
use Rattle.std.proofs.lemmas.Option.{slice_get_read}
use Rattle.check_memory.specs.Ends.{IsWhole}
use Rattle.check_memory.proofs.machine.is_whole.Goals as goal

pub returns : goal.returns
returns c = λ yes.
    let cpu = c.args.cpu in let ran = c.in-Some-Some.ran.now in let back = c.in-Some-Some.back.now in
    let all_ran = c.deref.result.now in let all_back = c.deref-2.result.now in
    let ran_there : cpu < length all_ran = search rules in
    let ran_is : ran ≡ get_or all_ran cpu ran = search rules in
    let back_there : cpu < length all_back = search rules in
    let back_is : back ≡ get_or all_back cpu back = search rules in record {
      records = ran;
      jobs = back;
      ran = subst (λ l. slice_get l cpu ≡ Some ran) c.deref.ensures.value (slice_get_read all_ran (length all_ran) cpu ran refl ran_there ran_is);
      back = subst (λ l. slice_get l cpu ≡ Some back) c.deref-2.ensures.value (slice_get_read all_back (length all_back) cpu back refl back_there back_is);
      whole = subst (λ l. IsWhole cpu c.args.many l back.items) c.as_slice.ensures.value
          (subst (λ l. IsWhole cpu c.args.many c.as_slice.result.now l) c.as_slice-2.ensures.value (c.are_whole.ensures yes));
    }
