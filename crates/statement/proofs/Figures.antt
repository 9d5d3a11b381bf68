-- THE FIGURES of document 01 that are marked P hold. Assumes nothing.
use mathlib.Core.Path.{refl}
use Rattle.statement.specs.Cluster.{group_of}
use Rattle.statement.specs.Lowest.{lowest_from}
use Rattle.statement.specs.Table.{choose, ordered, lower_first}
use Rattle.statement.specs.Rows.{rows_of, filled, list_of, conflicts, fits, clashes, bad_row, well_formed}
use Rattle.statement.specs.Growing.{lesser, over_fours, alone, pair_trial, looked, matrix_trial, put_in, with_singles, with_trivial, table_trial, kept, enlarged, grown, rows_at, trials_at, whole_run}
use Rattle.statement.specs.Tree.{numbers, link_of, home_of, tree_of, walk, cluster_of, insert_row, sort_rows, rows_of_tree, climb, path_sum}
use Rattle.statement.specs.Bytes.{from_bytes, tree_in}
use Rattle.statement.specs.Refusals.{outcome_of}
use Rattle.statement.specs.Calls.{run_matrix, run_table, grow_matrix, read_tree}
use Rattle.statement.specs.Figures.{Holds, figures}

pub figures_hold : Holds figures
unfolding group_of lowest_from choose ordered lower_first rows_of filled list_of conflicts fits clashes bad_row well_formed lesser over_fours alone pair_trial looked matrix_trial put_in with_singles with_trivial table_trial kept enlarged grown rows_at trials_at whole_run numbers link_of home_of tree_of walk cluster_of insert_row sort_rows rows_of_tree climb path_sum from_bytes tree_in outcome_of run_matrix run_table grow_matrix read_tree
figures_hold = (refl, (refl, (refl, (refl, (refl, (refl, (refl, (refl, (refl, (refl, (refl, (refl, (refl, (refl, tt))))))))))))))
