-- What a job promises: every number of its answer, every byte of the output and every number of working memory after it.
use Rattle.std.specs.Prelude.{ℕ, ◌≡◌, List}
use Rattle.demands.specs.Answer.{Result}
use Rattle.demands.specs.declared.answer.Answer.{Answer}

pub record Promise (result : Result) (r : Answer) (output work : List ℕ) : Type 0 where
  pub is : r ≡ result.answer
  pub written : output ≡ result.output
  pub left : work ≡ result.work
