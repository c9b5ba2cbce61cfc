use Rattle.std.proofs.Common.{inl, inr, arith}
use Rattle.std.proofs.lemmas.Result.{err_from_is_err_and}
use Rattle.uca_cli.proofs.PerformingLemmas.{option_cases, makes_base, stops_widening, performs, stops, no_rules, no_table}
use Rattle.uca_cli.proofs.performing.perform.Goals.{in-Some+in_ok-given-in-Some, in-None+in_ok-given-in-None, in-Some-rules+in_ok-t-in-Some-rules, in-None-rules}
use Rattle.uca_cli.proofs.performing.perform.Goals as goal

pub returns-in_err-given-in-Some-clause-fault : goal.returns-in_err-given-in-Some-clause-fault
returns-in_err-given-in-Some-clause-fault g c =
    let p = err_from_is_err_and c.from_residual.result c.from_residual.ensures.1 in
    elim (option_cases c.args.rules) [
      | inl none ↦ rw (c.in-Some.is, none, p.1, p.2) (no_table _ _ _ _ _ _ (inl c.in_err-given-in-Some.ensures.reads))
      | inr some ↦ rw (c.in-Some.is, some.1, p.1, p.2) (no_table _ _ _ _ _ _ (inl c.in_err-given-in-Some.ensures.reads))
    ]

pub returns-in_err-given-in-Some-clause-table_calls : goal.returns-in_err-given-in-Some-clause-table_calls
returns-in_err-given-in-Some-clause-table_calls g c =
    rw (c.in-Some.is) c.read_table.ensures.calls

pub returns-in_err-given-in-Some-clause-rule_calls : goal.returns-in_err-given-in-Some-clause-rule_calls
returns-in_err-given-in-Some-clause-rule_calls g c =
    elim (option_cases c.args.rules) [
      | inl none ↦ rw none tt
      | inr some ↦ rw some.1 (omega arith)
    ]

pub returns-in_err-given-in-None-clause-fault : goal.returns-in_err-given-in-None-clause-fault
returns-in_err-given-in-None-clause-fault g c =
    let p = err_from_is_err_and c.from_residual-in_err-given-in-None.result c.from_residual-in_err-given-in-None.ensures.1 in
    elim (option_cases c.args.rules) [
      | inl none ↦ rw (c.in-None.is, none, p.1, p.2) (no_table _ _ _ _ _ _ (inl tt))
      | inr some ↦ rw (c.in-None.is, some.1, p.1, p.2) (no_table _ _ _ _ _ _ (inl tt))
    ]

pub returns-in_err-given-in-None-clause-rule_calls : goal.returns-in_err-given-in-None-clause-rule_calls
returns-in_err-given-in-None-clause-rule_calls g c =
    elim (option_cases c.args.rules) [
      | inl none ↦ rw none tt
      | inr some ↦ rw some.1 (omega arith)
    ]

pub returns-in_err-base-clause-fault : goal.returns-in_err-base-clause-fault
returns-in_err-base-clause-fault g c =
    let p = err_from_is_err_and c.from_residual-in_err-base.result c.from_residual-in_err-base.ensures.1 in
    elim c.match-table.branch [
      | in-Some+in_ok-given-in-Some w ↦ elim (option_cases c.args.rules) [
        | inl none ↦ rw (w.in-Some.is, w.table-is, none, p.1, p.2) (no_table _ _ _ _ _ _ (stops_widening _ _ _ _ _ _ w.given-is w.in_ok-given-in-Some.ensures.reads c.in_err-base.ensures.err))
        | inr some ↦ rw (w.in-Some.is, w.table-is, some.1, p.1, p.2) (no_table _ _ _ _ _ _ (stops_widening _ _ _ _ _ _ w.given-is w.in_ok-given-in-Some.ensures.reads c.in_err-base.ensures.err))
      ]
      | in-None+in_ok-given-in-None w ↦ elim (option_cases c.args.rules) [
        | inl none ↦ rw (w.in-None.is, none, p.1, p.2) (no_table _ _ _ _ _ _ (stops_widening _ _ _ _ _ _ w.given-is w.in_ok-given-in-None.ensures c.in_err-base.ensures.err))
        | inr some ↦ rw (w.in-None.is, some.1, p.1, p.2) (no_table _ _ _ _ _ _ (stops_widening _ _ _ _ _ _ w.given-is w.in_ok-given-in-None.ensures c.in_err-base.ensures.err))
      ]
    ]

pub returns-in_err-base-clause-table_calls : goal.returns-in_err-base-clause-table_calls
returns-in_err-base-clause-table_calls g c =
    elim c.match-table.branch [
      | in-Some+in_ok-given-in-Some w ↦ rw (w.in-Some.is, w.table-is) w.read_table.ensures.calls
      | in-None+in_ok-given-in-None w ↦ rw (w.in-None.is) tt
    ]

pub returns-in_err-base-clause-rule_calls : goal.returns-in_err-base-clause-rule_calls
returns-in_err-base-clause-rule_calls g c =
    elim (option_cases c.args.rules) [
      | inl none ↦ rw none tt
      | inr some ↦ rw some.1 (omega arith)
    ]

pub returns-in_err-t-in-Some-rules-clause-fault : goal.returns-in_err-t-in-Some-rules-clause-fault
returns-in_err-t-in-Some-rules-clause-fault g c =
    let p = err_from_is_err_and c.from_residual-in_err-t-in-Some-rules.result c.from_residual-in_err-t-in-Some-rules.ensures.1 in
    elim c.match-table.branch [
      | in-Some+in_ok-given-in-Some w ↦ rw (w.in-Some.is, w.table-is, c.in-Some-rules.is, p.1, p.2) (no_rules _ _ _ _ _ c.in_ok-base.base _ _ (makes_base _ _ _ _ _ _ w.given-is w.in_ok-given-in-Some.ensures.reads c.in_ok-base.ensures.ok) c.in_err-t-in-Some-rules.ensures.err)
      | in-None+in_ok-given-in-None w ↦ rw (w.in-None.is, c.in-Some-rules.is, p.1, p.2) (no_rules _ _ _ _ _ c.in_ok-base.base _ _ (makes_base _ _ _ _ _ _ w.given-is w.in_ok-given-in-None.ensures c.in_ok-base.ensures.ok) c.in_err-t-in-Some-rules.ensures.err)
    ]

pub returns-in_err-t-in-Some-rules-clause-table_calls : goal.returns-in_err-t-in-Some-rules-clause-table_calls
returns-in_err-t-in-Some-rules-clause-table_calls g c =
    elim c.match-table.branch [
      | in-Some+in_ok-given-in-Some w ↦ rw (w.in-Some.is, w.table-is) w.read_table.ensures.calls
      | in-None+in_ok-given-in-None w ↦ rw (w.in-None.is) tt
    ]

pub returns-in_err-t-in-Some-rules-clause-rule_calls : goal.returns-in_err-t-in-Some-rules-clause-rule_calls
returns-in_err-t-in-Some-rules-clause-rule_calls g c =
    rw (c.in-Some-rules.is) c.tailored_in.ensures.calls

pub returns-clause-done : goal.returns-clause-done
returns-clause-done g c =
    elim c.match-table.branch [
      | in-Some+in_ok-given-in-Some w ↦ elim c.match-rules.branch [
        | in-Some-rules+in_ok-t-in-Some-rules v ↦ rw (w.in-Some.is, w.table-is, v.in-Some-rules.is, v.rules-is) (performs _ _ _ _ _ c.in_ok-base.base c.match-rules.t _ _ _ (makes_base _ _ _ _ _ _ w.given-is w.in_ok-given-in-Some.ensures.reads c.in_ok-base.ensures.ok) (rw v.t-is v.in_ok-t-in-Some-rules.ensures.ok) c.work.ensures.done)
        | in-None-rules v ↦ rw (w.in-Some.is, w.table-is, v.in-None-rules.is) (performs _ _ _ _ _ c.in_ok-base.base c.match-rules.t _ _ _ (makes_base _ _ _ _ _ _ w.given-is w.in_ok-given-in-Some.ensures.reads c.in_ok-base.ensures.ok) (rw v.t-is v.ready-t.ensures) c.work.ensures.done)
      ]
      | in-None+in_ok-given-in-None w ↦ elim c.match-rules.branch [
        | in-Some-rules+in_ok-t-in-Some-rules v ↦ rw (w.in-None.is, v.in-Some-rules.is, v.rules-is) (performs _ _ _ _ _ c.in_ok-base.base c.match-rules.t _ _ _ (makes_base _ _ _ _ _ _ w.given-is w.in_ok-given-in-None.ensures c.in_ok-base.ensures.ok) (rw v.t-is v.in_ok-t-in-Some-rules.ensures.ok) c.work.ensures.done)
        | in-None-rules v ↦ rw (w.in-None.is, v.in-None-rules.is) (performs _ _ _ _ _ c.in_ok-base.base c.match-rules.t _ _ _ (makes_base _ _ _ _ _ _ w.given-is w.in_ok-given-in-None.ensures c.in_ok-base.ensures.ok) (rw v.t-is v.ready-t.ensures) c.work.ensures.done)
      ]
    ]

pub returns-clause-fault : goal.returns-clause-fault
returns-clause-fault g c =
    elim c.match-table.branch [
      | in-Some+in_ok-given-in-Some w ↦ elim c.match-rules.branch [
        | in-Some-rules+in_ok-t-in-Some-rules v ↦ rw (w.in-Some.is, w.table-is, v.in-Some-rules.is, v.rules-is) (stops _ _ _ _ _ c.in_ok-base.base c.match-rules.t _ _ _ (makes_base _ _ _ _ _ _ w.given-is w.in_ok-given-in-Some.ensures.reads c.in_ok-base.ensures.ok) (rw v.t-is v.in_ok-t-in-Some-rules.ensures.ok) c.work.ensures.fault)
        | in-None-rules v ↦ rw (w.in-Some.is, w.table-is, v.in-None-rules.is) (stops _ _ _ _ _ c.in_ok-base.base c.match-rules.t _ _ _ (makes_base _ _ _ _ _ _ w.given-is w.in_ok-given-in-Some.ensures.reads c.in_ok-base.ensures.ok) (rw v.t-is v.ready-t.ensures) c.work.ensures.fault)
      ]
      | in-None+in_ok-given-in-None w ↦ elim c.match-rules.branch [
        | in-Some-rules+in_ok-t-in-Some-rules v ↦ rw (w.in-None.is, v.in-Some-rules.is, v.rules-is) (stops _ _ _ _ _ c.in_ok-base.base c.match-rules.t _ _ _ (makes_base _ _ _ _ _ _ w.given-is w.in_ok-given-in-None.ensures c.in_ok-base.ensures.ok) (rw v.t-is v.in_ok-t-in-Some-rules.ensures.ok) c.work.ensures.fault)
        | in-None-rules v ↦ rw (w.in-None.is, v.in-None-rules.is) (stops _ _ _ _ _ c.in_ok-base.base c.match-rules.t _ _ _ (makes_base _ _ _ _ _ _ w.given-is w.in_ok-given-in-None.ensures c.in_ok-base.ensures.ok) (rw v.t-is v.ready-t.ensures) c.work.ensures.fault)
      ]
    ]

pub returns-clause-table_calls : goal.returns-clause-table_calls
returns-clause-table_calls g c =
    elim c.match-table.branch [
      | in-Some+in_ok-given-in-Some w ↦ rw (w.in-Some.is, w.table-is) w.read_table.ensures.calls
      | in-None+in_ok-given-in-None w ↦ rw (w.in-None.is) tt
    ]

pub returns-clause-rule_calls : goal.returns-clause-rule_calls
returns-clause-rule_calls g c =
    elim c.match-rules.branch [
      | in-Some-rules+in_ok-t-in-Some-rules v ↦ rw (v.in-Some-rules.is, v.rules-is) v.tailored_in.ensures.calls
      | in-None-rules v ↦ rw (v.in-None-rules.is) tt
    ]
