pub mod Met
pub mod ReaderV
pub mod CallsV
pub mod HearV
pub mod MetLaws
pub mod CallLaws
pub mod SafeV
pub mod SafeLaws
