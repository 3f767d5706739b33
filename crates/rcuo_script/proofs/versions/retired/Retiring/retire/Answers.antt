use Rattle.std.proofs.Common.{arith, ◌≡◌, ◌+◌, ◌*◌, ◌++◌, ◌∙◌, [], ◌∷◌, List, ap, sym, subst, length, map}
use Rattle.std.proofs.lemmas.List.{length-map, map_push}
use Rattle.rcu_setup.specs.Arrays.{route_view}
use Rattle.rcu_setup.specs.Words.{Route}
use Rattle.rcuo_script.specs.Routes.{bytes_of, routes_in, with_route, with_routes}
use Rattle.rcuo_script.specs.Versions.{retired_from, shown}
use Rattle.rcuo_script.specs.declared.versions.table.TheConstants.{KEY_STEP}
use Rattle.rcuo_script.proofs.Budget.{run_one_more}
use Rattle.rcuo_script.proofs.Retirements.{length-retired_from, retires_one_more}
use Rattle.rcuo_script.proofs.Tables.{set_one_more}
use Rattle.std.proofs.lemmas.Result.{IfOk-from_err}
use Rattle.rcuo_script.proofs.versions.retired.Retiring.retire.Goals as goal

pub returns-clause-version : goal.returns-clause-version
returns-clause-version c first calls was =
    let old = c.args.self.now in
    let call : Route = (c.args.name.now, c.args.hop) in
    let routes = with_routes first calls in
    let so_many : c.len.result ≡ length calls =
    c.len.ensures ∙ old.retired.ok.0 ∙ sym (length-map old.retired.items shown) ∙ ap length was.versions ∙ length-retired_from 0 first calls in
    let many : c.len.result ≡ 0 + length calls = omega (arith, so_many) in
    let wide : c.len-2.result ≡ length routes =
    c.len-2.ensures.len ∙ sym (length-map old.current.entries route_view) ∙ ap length was.current in
    let along : bytes_of (with_route routes call) ≡ bytes_of routes + c.added_bytes.result =
    subst (λ (r : List Route). bytes_of (with_route r call) ≡ bytes_of r + c.added_bytes.result) was.current (c.added_bytes.ensures c.args.hop) in
    let whole : bytes_of (with_routes first (calls ++ call ∷ [])) ≡ bytes_of (with_route routes call) = ap bytes_of (set_one_more first calls call) in
    let sum = c.in-Some.ensures in
    let room = c.in-Some-checked_sub.ensures in
    let bytes : c.in-Some.bytes ≡ bytes_of (with_routes first (calls ++ call ∷ [])) = omega (arith, sum, was.bytes, along, whole) in
    let table : routes_in c.replace-table.result ≡ routes = ap routes_in c.replace-table.ensures.value ∙ was.current in
    record {
      current = ap routes_in c.replace-table.ensures.after ∙ c.in_ok-next.ensures.routes
          ∙ ap (λ r. with_route r call) was.current ∙ sym (set_one_more first calls call);
      versions = ap (map shown) c.in_ok-push.ensures.items
          ∙ map_push shown old.retired.items _
          ∙ ap (λ before. before ++ (c.len.result * KEY_STEP + c.len-2.result, routes_in c.replace-table.result) ∷ []) was.versions
          ∙ (λ j. retired_from 0 first calls ++ (many j * KEY_STEP + wide j, table j) ∷ [])
          ∙ sym (retires_one_more 0 first calls call);
      bytes = bytes;
      budget = omega (arith, room.0, room.1, was.budget, bytes, run_one_more first calls call);
    }

pub returns-in_err-next-clause-more : goal.returns-in_err-next-clause-more
returns-in_err-next-clause-more c = IfOk-from_err _ _ c.from_residual.ensures.0

pub returns-in_err-next-clause-small : goal.returns-in_err-next-clause-small
returns-in_err-next-clause-small c = IfOk-from_err _ _ c.from_residual.ensures.0

pub returns-in_err-next-clause-version : goal.returns-in_err-next-clause-version
returns-in_err-next-clause-version c = λ first calls has. IfOk-from_err _ _ c.from_residual.ensures.0

pub returns-in_err-push-clause-more : goal.returns-in_err-push-clause-more
returns-in_err-push-clause-more c = IfOk-from_err _ _ c.from_residual-in_err-push.ensures.0

pub returns-in_err-push-clause-small : goal.returns-in_err-push-clause-small
returns-in_err-push-clause-small c = IfOk-from_err _ _ c.from_residual-in_err-push.ensures.0

pub returns-in_err-push-clause-version : goal.returns-in_err-push-clause-version
returns-in_err-push-clause-version c = λ first calls has. IfOk-from_err _ _ c.from_residual-in_err-push.ensures.0
