mod ReadLaws
mod SetLaws
mod FitsLaws
mod PrenexLaws
mod PlainLaws
mod EarlySteps
mod JudgeSteps
pub mod OpenTuples
mod SearchLaws
