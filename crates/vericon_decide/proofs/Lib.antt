mod VerdictLaws
mod LevelLaws
mod AnswerLaws
mod Exact
mod RoundLaws
