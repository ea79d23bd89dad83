use Rattle.spd_tests.proofs.column_rows.end_of.Goals as goal

pub run_main-requires : goal.run_main-requires
run_main-requires c = record {
  main = record {
    silent = c.tree.ensures.silent;
    functions_lined = c.tree.ensures.lined.functions;
    tasks_lined = c.tree.ensures.lined.tasks;
  };
}
