pub mod ProgressLaws
pub mod BaselineLaws
pub mod WordLaws
pub mod NumberLaws
pub mod LoadLimits
pub mod SharedValues
pub mod BestLaws
mod ImprovedLaws
pub mod RunningLaws
mod TextLaws
mod FairLaws
mod AskedLaws
mod DemoLaws
mod EndedLaws
mod SlotLaws
mod ReadOutLaws
mod WorthLaws
mod RequestLaws
