pub mod ProbedGraphs
